-- Why a parameter list is refused, in sense data (SPC-4, 4.5).
use Rattle.ct_sense.specs.declared.sense.SenseCode.{SenseCode}
use Rattle.ct_sense.specs.declared.code.TheConstants.{PARAMETER_LIST_LENGTH_ERROR, INVALID_FIELD_IN_PARAMETER_LIST}
use Rattle.ct_sense.specs.declared.code.TheConstants.{LBA_OUT_OF_RANGE}
use Rattle.ct_param.specs.declared.fault.ListFault.{ListFault}
use Rattle.ct_param.specs.declared.fault.ListFault.TheVariants.{BadLength, BadField, OutOfRange}

abbrev pub sense_code_of : ListFault → SenseCode
sense_code_of BadLength = PARAMETER_LIST_LENGTH_ERROR
sense_code_of BadField = INVALID_FIELD_IN_PARAMETER_LIST
sense_code_of OutOfRange = LBA_OUT_OF_RANGE
