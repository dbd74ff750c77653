-- The parameter list of PERSISTENT RESERVE OUT (SPC-4, 6.16, basic parameter list). What no line names is ignored.
use Rattle.std.specs.Prelude.{ℕ, List, length, slice_index, not, ◌==◌, if◌then◌else◌, Result, Ok, Err}
use Rattle.ct_word.specs.Fields.{number_at}
use Rattle.ct_param.specs.declared.fault.ListFault.{ListFault}
use Rattle.ct_param.specs.declared.fault.ListFault.TheVariants.{BadLength, BadField}
use Rattle.ct_param.specs.declared.resv.ResvList.{ResvList}

-- RESERVATION KEY and SERVICE ACTION RESERVATION KEY, of eight bytes each
abbrev pub keys_of : List ℕ → ResvList
keys_of bytes = record { key = number_at 8 0 bytes; service_key = number_at 8 8 bytes }

-- a list of 24 bytes; byte 20 has SPEC_I_PT, ALL_TG_PT and APTPL, none of which is accepted
unfoldable pub resv_list_of : List ℕ → Result ResvList ListFault
resv_list_of bytes =
    if not (length bytes == 24) then Err BadLength
    else if not (slice_index bytes 20 == 0) then Err BadField
    else Ok (keys_of bytes)
