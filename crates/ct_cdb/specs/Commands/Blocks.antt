-- Commands that move blocks, or have them moved (SBC-3, clause 5).
use Rattle.std.specs.Prelude.{ℕ, ◌+◌, ◌*◌, List, [], ◌∷◌, map, take, Bool, true, false, Result, Ok, Err}
use Rattle.ct_word.specs.declared.limit.TheConstants.{BLOCK_SIZE}
use Rattle.ct_param.specs.declared.fault.ListFault.{ListFault}
use Rattle.ct_param.specs.declared.unmap.UnmapDescriptor.{UnmapDescriptor}
use Rattle.ct_param.specs.UnmapLists.{unmap_list_of}
use Rattle.ct_cdb.specs.declared.op.SerIdx.TheVariants.{Rd, Wr, Un, Sy}
use Rattle.ct_cdb.specs.declared.ranges.LbaRange.{LbaRange}
use Rattle.ct_cdb.specs.declared.profile.Profile.{Profile}
use Rattle.ct_cdb.specs.declared.profile.Class.TheVariants.{Reading, Writing}
use Rattle.ct_cdb.specs.declared.profile.Phase.TheVariants.{Get, Look, Put, PutSecondHalf, PutSame, Zero, Compare}
use Rattle.ct_cdb.specs.Commands.Still.{still}

-- one range of blocks
abbrev pub range : ℕ → ℕ → List LbaRange
range lba count = record { lba = lba; count = count } ∷ []

-- the bytes of so many blocks
abbrev pub data_of : ℕ → ℕ
data_of count = BLOCK_SIZE * count

-- a command that reads blocks of one range, and one that writes them
abbrev pub reading : ℕ → ℕ → Profile
reading lba count = record (still Rd Reading) { needs_started = true; ranges = range lba count }

abbrev pub writing : ℕ → ℕ → Profile
writing lba count = record (still Wr Writing) { needs_started = true; is_write = true; ranges = range lba count }

-- READ
abbrev pub read : ℕ → ℕ → Profile
read lba count = record (reading lba count) { data_in = data_of count; need = count; phases = Get ∷ [] }

-- WRITE
abbrev pub write : ℕ → ℕ → Profile
write lba count = record (writing lba count) { data_out = data_of count; need = count; phases = Put ∷ [] }

-- WRITE AND VERIFY
abbrev pub write_and_verify : ℕ → ℕ → Profile
write_and_verify lba count =
    record (writing lba count) { data_out = data_of count; need = count; phases = Put ∷ Look ∷ [] }

-- VERIFY, which compares, or looks alone
abbrev pub verify : Bool → ℕ → ℕ → Profile
verify true lba count =
    record (reading lba count) { data_out = data_of count; need = count + 1; phases = Compare ∷ [] }
verify false lba count = record (reading lba count) { need = 1; phases = Look ∷ [] }

-- COMPARE AND WRITE, whose data-out has the blocks that are compared, and then those that are written
abbrev pub compare_and_write : ℕ → ℕ → Profile
compare_and_write lba count =
    record (writing lba count) {
      data_out = 2 * data_of count;
      need = 2 * count + 1;
      phases = Compare ∷ PutSecondHalf ∷ [];
    }

-- WRITE SAME, whose data-out has one block
abbrev pub write_same : ℕ → ℕ → Profile
write_same lba count = record (writing lba count) { data_out = data_of 1; need = 2; phases = PutSame ∷ [] }

-- UNMAP, whose ranges are the block descriptors of its parameter list, in their order; a list in fault has none
abbrev pub range_of : UnmapDescriptor → LbaRange
range_of descriptor = record { lba = descriptor.lba; count = descriptor.count }

abbrev pub ranges_of : Result (List UnmapDescriptor) ListFault → List LbaRange
ranges_of (Ok descriptors) = map range_of descriptors
ranges_of (Err fault) = []

-- the list stands in the first bytes of the data-out, on a disk of so many blocks
abbrev pub unmapped : ℕ → List ℕ → ℕ → List LbaRange
unmapped list out blocks = ranges_of (unmap_list_of blocks (take list out))

abbrev pub unmap : ℕ → List ℕ → ℕ → Profile
unmap list out blocks = record (still Un Writing) {
  needs_started = true;
  is_write = true;
  data_out = list;
  need = 1;
  ranges = unmapped list out blocks;
  phases = Zero ∷ [];
}

-- SYNCHRONIZE CACHE
abbrev pub synchronize_cache : ℕ → ℕ → Profile
synchronize_cache lba count = record (still Sy Writing) { needs_started = true; ranges = range lba count }
