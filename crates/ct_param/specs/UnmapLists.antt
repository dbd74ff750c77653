-- The parameter list of UNMAP (SBC-3, UNMAP): a header of 8 bytes, and block descriptors of 16 bytes.
use Rattle.std.specs.Prelude.{ℕ, zero, suc, ◌+◌, ◌-◌, ◌*◌, ◌/◌, min, max, List, [], ◌∷◌, ◌++◌, length, Bool, true, not}
use Rattle.std.specs.Prelude.{◌≡◌, ◌≤◌, ◌<◌, ◌==◌, ◌&&◌, nat_le, nat_lt, if◌then◌else◌, slice_get, Some}
use Rattle.std.specs.Prelude.{Result, Ok, Err}
use Rattle.std.specs.List.{list_all}
use Rattle.ct_word.specs.Fields.{number_at}
use Rattle.ct_word.specs.declared.limit.TheConstants.{MOST_RANGES}
use Rattle.ct_param.specs.declared.fault.ListFault.{ListFault}
use Rattle.ct_param.specs.declared.fault.ListFault.TheVariants.{BadLength, BadField, OutOfRange}
use Rattle.ct_param.specs.declared.unmap.UnmapDescriptor.{UnmapDescriptor}

-- UNMAP DATA LENGTH, the bytes that follow it, and UNMAP BLOCK DESCRIPTOR DATA LENGTH
abbrev pub data_length : List ℕ → ℕ
data_length bytes = number_at 2 0 bytes

abbrev pub descriptors_length : List ℕ → ℕ
descriptors_length bytes = number_at 2 2 bytes

-- the block descriptor from a byte on: UNMAP LOGICAL BLOCK ADDRESS, NUMBER OF LOGICAL BLOCKS, and 4 reserved bytes
abbrev pub descriptor_at : ℕ → List ℕ → UnmapDescriptor
descriptor_at at bytes = record { lba = number_at 8 at bytes; count = number_at 4 (at + 8) bytes }

-- so many descriptors behind the header
abbrev pub descriptors : ℕ → List ℕ → List UnmapDescriptor
descriptors zero bytes = []
descriptors (suc before) bytes = descriptors before bytes ++ descriptor_at (8 + 16 * before) bytes ∷ []

-- those that are whole inside the length that the header says, and inside the list
abbrev pub whole_descriptors : List ℕ → ℕ
whole_descriptors bytes = min (descriptors_length bytes) (length bytes - 8) / 16

-- a descriptor's blocks are on a disk of so many blocks
abbrev pub is_inside : ℕ → UnmapDescriptor → Bool
is_inside blocks descriptor = nat_le (descriptor.lba + descriptor.count) blocks

-- two descriptors share no block: the one ends before the other begins, or has no block
abbrev pub is_apart : UnmapDescriptor → UnmapDescriptor → Bool
is_apart a b = nat_le (min (a.lba + a.count) (b.lba + b.count)) (max a.lba b.lba)

abbrev pub are_apart : List UnmapDescriptor → Bool
are_apart [] = true
are_apart (descriptor ∷ others) = list_all (is_apart descriptor) others && are_apart others

-- one ends at or before the beginning of the other
abbrev pub ends_before : UnmapDescriptor → UnmapDescriptor → Bool
ends_before a b = nat_le (a.lba + a.count) b.lba

-- each ends at or before the beginning of the next
abbrev pub are_in_order : List UnmapDescriptor → Bool
are_in_order [] = true
are_in_order (first ∷ []) = true
are_in_order (first ∷ second ∷ others) = ends_before first second && are_in_order (second ∷ others)

-- a range outside the disk is told before two descriptors that share a block
abbrev pub judged : ℕ → List UnmapDescriptor → Result (List UnmapDescriptor) ListFault
judged blocks list =
    if not (list_all (is_inside blocks) list) then Err OutOfRange
    else if not (are_apart list) then Err BadField
    else Ok list

-- the descriptors of a list, for a disk of so many blocks; a list of no bytes is accepted and has none
unfoldable pub unmap_list_of : ℕ → List ℕ → Result (List UnmapDescriptor) ListFault
unmap_list_of blocks bytes =
    if length bytes == 0 then Ok []
    else if nat_lt (length bytes) 8 then Err BadLength
    else if nat_lt (16 * MOST_RANGES) (descriptors_length bytes) then Err BadField
    else if not (data_length bytes == descriptors_length bytes + 6) then Err BadField
    else judged blocks (descriptors (whole_descriptors bytes) bytes)

-- a block is among those of a descriptor
abbrev pub HasBlock : UnmapDescriptor → ℕ → Type 0
HasBlock descriptor block = (descriptor.lba ≤ block) × (block < descriptor.lba + descriptor.count)

-- no block is among those of two descriptors of a list
abbrev pub ShareNoBlock : List UnmapDescriptor → Type 0
ShareNoBlock list =
    (first second block : ℕ) (a b : UnmapDescriptor) → first < second → slice_get list first ≡ Some a
    → slice_get list second ≡ Some b → HasBlock a block → HasBlock b block → ⊥
