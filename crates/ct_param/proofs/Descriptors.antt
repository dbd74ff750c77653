-- Block descriptors, one after another.
use Rattle.std.proofs.Common.{◌≡◌, ◌+◌, ◌*◌, ℕ, List, [], ◌∷◌, ◌++◌, length, refl, arith, add-one, length-append}
use Rattle.ct_param.specs.declared.unmap.UnmapDescriptor.{UnmapDescriptor}
use Rattle.ct_param.specs.UnmapLists.{descriptor_at, descriptors}

-- so many were read
pub record AreRead (bytes : List ℕ) (count : ℕ) (list : List UnmapDescriptor) : Type 0 where
  pub list_is : list ≡ descriptors count bytes
  pub few : length list ≡ count

pub none_read : (bytes : List ℕ) → AreRead bytes 0 []
none_read bytes = record { list_is = refl; few = refl }

pub one_read : (bytes : List ℕ) (count : ℕ) (list : List UnmapDescriptor) → AreRead bytes count list → AreRead bytes (count + 1) (list ++ descriptor_at (8 + 16 * count) bytes ∷ [])
one_read bytes count list read = record {
  list_is = rw (add-one, read.list_is) refl;
  few = rw (length-append list (descriptor_at (8 + 16 * count) bytes ∷ [])) (omega (arith, read.few));
}
