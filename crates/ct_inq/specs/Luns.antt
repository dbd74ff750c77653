-- What REPORT LUNS returns (SPC-4). Which of the numbers 0 to 15 an initiator sees is a set of bits: the number x
-- is seen where bit x is 1.
use Rattle.std.specs.Prelude.{ℕ, ◌*◌, List, [], ◌∷◌, ◌++◌, Bool, ◌==◌, length, replicate, filter}
use Rattle.std.specs.List.{flat_map, range_with_len}
use Rattle.std.specs.Int.{bit_at}
use Rattle.ct_word.specs.Fields.{bytes_of}
use Rattle.ct_cdb.specs.declared.choices.LunSelection.{LunSelection}
use Rattle.ct_cdb.specs.declared.choices.LunSelection.TheVariants as selection
use Rattle.ct_inq.specs.Allocation.{cut}

abbrev pub is_visible : ℕ → ℕ → Bool
is_visible visible number = bit_at visible number == 1

-- the visible numbers below a bound, in rising order
unfoldable pub visible_below : ℕ → ℕ → List ℕ
visible_below bound visible = filter (is_visible visible) (range_with_len 0 bound)

-- the numbers that are listed: none of them is that of a well known logical unit
abbrev pub listed : LunSelection → ℕ → List ℕ
listed selection.Addressed visible = visible_below 16 visible
listed selection.WellKnown visible = []
listed selection.All visible = visible_below 16 visible

-- a LUN in 8 bytes (SAM-5): the number by the peripheral device addressing method, on bus 0
abbrev pub lun_entry : ℕ → List ℕ
lun_entry number = 0x00 ∷ number ∷ replicate 6 0

abbrev pub lun_entries : List ℕ → List ℕ
lun_entries numbers = flat_map lun_entry numbers

-- the whole list: LUN LIST LENGTH, the bytes of the entries, in four bytes; four zeros; an entry for each number
unfoldable pub lun_list : List ℕ → List ℕ
lun_list numbers = bytes_of 4 (8 * length numbers) ++ replicate 4 0 ++ lun_entries numbers

-- the data-in of REPORT LUNS
unfoldable pub luns_data : LunSelection → ℕ → ℕ → List ℕ
luns_data select allocation visible = cut allocation (lun_list (listed select visible))
