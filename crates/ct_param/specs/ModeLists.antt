-- The parameter list of MODE SELECT (SPC-4, MODE SELECT and 7.5, mode parameters): a header, perhaps a block
-- descriptor, and mode pages to the end. The first fault is told, in the order of the bytes. What no line names is
-- ignored: in the header MODE DATA LENGTH, MEDIUM TYPE, the device-specific parameter and LONGLBA, in the descriptor
-- the number of blocks.
use Rattle.std.specs.Prelude.{ℕ, zero, suc, ◌%◌, List, [], ◌∷◌, length, take, drop, slice_index, Bool, true, false, not}
use Rattle.std.specs.Prelude.{◌==◌, ◌&&◌, nat_lt, if◌then◌else◌, Option, None, Some, is_none, Result, Ok, Err}
use Rattle.ct_word.specs.Fields.{number_at}
use Rattle.ct_word.specs.declared.limit.TheConstants.{BLOCK_SIZE}
use Rattle.ct_param.specs.declared.fault.ListFault.{ListFault}
use Rattle.ct_param.specs.declared.fault.ListFault.TheVariants.{BadLength, BadField}
use Rattle.ct_param.specs.declared.mode.ModeList.{ModeList}

abbrev pub no_pages : ModeList
no_pages = record { caching = None; control = None }

abbrev pub is_empty : ModeList → Bool
is_empty list = is_none list.caching && is_none list.control

-- the fault of a page behind its code byte: PAGE LENGTH, and as many bytes as it has to say
abbrev pub page_fault : ℕ → List ℕ → Option ListFault
page_fault size [] = Some BadLength
page_fault size (stated ∷ body) =
    if not (stated == size) then Some BadField
    else if nat_lt (length body) size then Some BadLength
    else None

abbrev pub unless : Option ListFault → Result ModeList ListFault → Result ModeList ListFault
unless (Some fault) read = Err fault
unless None read = read

-- pages to the end, at most so many: Caching (SBC-3), PAGE CODE 08h, 20 bytes, and Control (SPC-4), PAGE CODE 0Ah, 12
-- bytes. PS, bit 7 of the code byte, is ignored. Any other code, and one that came before, is a fault of its byte
abbrev pub with_pages : ℕ → ModeList → List ℕ → Result ModeList ListFault
with_pages zero list bytes = Ok list
with_pages (suc more) list [] = Ok list
with_pages (suc more) list (code ∷ rest) =
    if (code % 128 == 0x08) && is_none list.caching then
    unless (page_fault 0x12 rest)
    (with_pages more (record list { caching = Some (take 20 (code ∷ rest)) }) (drop 20 (code ∷ rest)))
    else if (code % 128 == 0x0a) && is_none list.control then
    unless (page_fault 0x0a rest)
    (with_pages more (record list { control = Some (take 12 (code ∷ rest)) }) (drop 12 (code ∷ rest)))
    else Err BadField

-- each page has a byte at least
abbrev pub pages_of : List ℕ → Result ModeList ListFault
pages_of bytes = with_pages (length bytes) no_pages bytes

-- what follows the header, whose BLOCK DESCRIPTOR LENGTH is given: no descriptor or one, with LOGICAL BLOCK LENGTH in
-- its bytes 5 to 7
abbrev pub described : ℕ → List ℕ → Result ModeList ListFault
described size bytes =
    if size == 0 then pages_of bytes
    else if not (size == 8) then Err BadField
    else if nat_lt (length bytes) 8 then Err BadLength
    else if not (number_at 3 5 bytes == BLOCK_SIZE) then Err BadField
    else pages_of (drop 8 bytes)

-- the mode parameter header of the 10-byte command, or of the 6-byte one: its bytes, and BLOCK DESCRIPTOR LENGTH
abbrev pub header_length : Bool → ℕ
header_length true = 8
header_length false = 4

abbrev pub descriptor_length : Bool → List ℕ → ℕ
descriptor_length true bytes = number_at 2 6 bytes
descriptor_length false bytes = slice_index bytes 3

-- a list of no bytes is accepted and has no page
unfoldable pub mode_list_of : Bool → List ℕ → Result ModeList ListFault
mode_list_of long bytes =
    if length bytes == 0 then Ok no_pages
    else if nat_lt (length bytes) (header_length long) then Err BadLength
    else described (descriptor_length long bytes) (drop (header_length long) bytes)
