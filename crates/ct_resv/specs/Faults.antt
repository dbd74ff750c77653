-- Why PERSISTENT RESERVE OUT is refused, in sense data (SPC-4, 4.5). RESERVATION CONFLICT is a status, without them.
use Rattle.std.specs.Prelude.{Option, None, Some}
use Rattle.ct_sense.specs.declared.sense.SenseCode.{SenseCode}
use Rattle.ct_sense.specs.declared.code.TheConstants.{INSUFFICIENT_REGISTRATION_RESOURCES}
use Rattle.ct_sense.specs.declared.code.TheConstants.{INVALID_RELEASE_OF_PERSISTENT_RESERVATION}
use Rattle.ct_sense.specs.declared.code.TheConstants.{INVALID_FIELD_IN_PARAMETER_LIST}
use Rattle.ct_resv.specs.declared.fault.ResvFault.{ResvFault}
use Rattle.ct_resv.specs.declared.fault.ResvFault.TheVariants.{Conflict, Full, BadRelease, BadKey}

abbrev pub sense_code_of : ResvFault → Option SenseCode
sense_code_of Conflict = None
sense_code_of Full = Some INSUFFICIENT_REGISTRATION_RESOURCES
sense_code_of BadRelease = Some INVALID_RELEASE_OF_PERSISTENT_RESERVATION
sense_code_of BadKey = Some INVALID_FIELD_IN_PARAMETER_LIST
