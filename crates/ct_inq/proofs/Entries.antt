-- One more entry in the list of REPORT LUNS.
use Rattle.std.proofs.Common.{◌≡◌, ◌≢◌, ◌≤◌, ◌<◌, ◌+◌, ◌-◌, ◌*◌, ◌/◌, ◌^◌, ℕ, zero, suc, List, [], ◌∷◌, ◌++◌, true, false, cond, bit_and, length, filter, replicate, slice_set, append_assoc, append-nil, add-one, length-append, refl, sym, ap, ◌∙◌, arith}
use Rattle.std.specs.List.{range_with_len}
use Rattle.std.proofs.lemmas.Nat.Bits.{shr_and_one}
use Rattle.std.proofs.lemmas.Bool.Decides.{nat_tests}
use Rattle.std.proofs.lemmas.List.{set-append_right, replicate-append-replicate}
use Rattle.std.proofs.lemmas.List.Elements.{filter-append}
use Rattle.std.proofs.lemmas.Grind.{flat_map-append}
use Rattle.ct_inq.specs.Luns.{is_visible, visible_below, lun_entry, lun_entries}
use Rattle.ct_inq.proofs.Sizes.{length-entries}

-- the entries of the visible numbers below a bound stand in the list, which ends there, and zeros follow
pub record ArePut (visible bound end : ℕ) (list : List ℕ) : Type 0 where
  pub end_is : end ≡ 8 + 8 * length (visible_below bound visible)
  pub few : length (visible_below bound visible) ≤ bound
  pub list_is : list ≡ replicate 8 0 ++ lun_entries (visible_below bound visible) ++ replicate (136 - end) 0

range_more : (from count last : ℕ) → from + count ≡ last → range_with_len from (suc count) ≡ range_with_len from count ++ last ∷ []
range_more from zero last e = let same : from ≡ last = omega arith in ap (λ number. number ∷ []) same
range_more from (suc count) last e = ap (λ (numbers : List ℕ). from ∷ numbers) (range_more (from + 1) count last (omega arith))

visible_more : (number visible : ℕ) → visible_below (number + 1) visible ≡ visible_below number visible ++ cond (is_visible visible number) (number ∷ []) []
unfolding visible_below
visible_more number visible =
    let more : range_with_len 0 (number + 1) ≡ range_with_len 0 number ++ number ∷ [] = rw (add-one number) (range_more 0 number number (omega arith)) in
    ap (filter (is_visible visible)) more ∙ filter-append (is_visible visible) (range_with_len 0 number) (number ∷ [])

entry_put : (front : List ℕ) (end rest room number : ℕ) → length front ≡ end → 8 + rest ≡ room → slice_set (front ++ replicate room 0) (end + 1) number ≡ front ++ lun_entry number ++ replicate rest 0
entry_put front end rest room number at e =
    let zeros : replicate {A = ℕ} room 0 ≡ replicate 8 0 ++ replicate rest 0 = sym (replicate-append-replicate 8 rest 0 ∙ ap (λ n. replicate n 0) e) in
    let put : slice_set (front ++ (replicate 8 0 ++ replicate rest 0)) (end + 1) number ≡ front ++ slice_set (replicate 8 0 ++ replicate rest 0) (end + 1 - end) number = set-append_right front (replicate 8 0 ++ replicate rest 0) end (end + 1) number at (omega arith) in
    let one : end + 1 - end ≡ 1 = omega arith in
    rw zeros (put ∙ rw one (rw append_assoc refl))

is_seen : (visible number : ℕ) → bit_and (visible / 2 ^ number) 1 ≡ 1 → is_visible visible number ≡ true
is_seen visible number e = rw (sym (shr_and_one visible number)) (rw e refl)

is_unseen : (visible number : ℕ) → bit_and (visible / 2 ^ number) 1 ≢ 1 → is_visible visible number ≡ false
is_unseen visible number e = rw (sym (shr_and_one visible number)) (grind (arith, nat_tests, e))

pub none_put : (visible : ℕ) → ArePut visible 0 8 (replicate 136 0)
unfolding visible_below
none_put visible = record { end_is = refl; few = omega arith; list_is = refl }

pub seen_put : (visible number end : ℕ) (list : List ℕ) → number < 16 → ArePut visible number end list → bit_and (visible / 2 ^ number) 1 ≡ 1 → ArePut visible (number + 1) (end + 8) (slice_set list (end + 1) number)
seen_put visible number end list below put seen =
    let more : visible_below (number + 1) visible ≡ visible_below number visible ++ number ∷ [] = rw (visible_more number visible, is_seen visible number seen) refl in
    let front = replicate 8 0 ++ lun_entries (visible_below number visible) in
    let size : length (lun_entries (visible_below number visible)) ≡ 8 * length (visible_below number visible) = length-entries (visible_below number visible) in
    let at : length front ≡ end = omega (arith, put.end_is) in
    let count : length (visible_below (number + 1) visible) ≡ length (visible_below number visible) + 1 = rw more (length-append (visible_below number visible) (number ∷ [])) in
    record {
      end_is = omega (arith, put.end_is);
      few = omega (arith, put.few);
      list_is =
          rw (put.list_is, entry_put front end (136 - (end + 8)) (136 - end) number at (omega (arith, put.end_is, put.few)))
          (rw (more, flat_map-append lun_entry (visible_below number visible) (number ∷ [])) (simp append_assoc));
    }

pub unseen_put : (visible number end : ℕ) (list : List ℕ) → ArePut visible number end list → bit_and (visible / 2 ^ number) 1 ≢ 1 → ArePut visible (number + 1) end list
unseen_put visible number end list put unseen =
    let more : visible_below (number + 1) visible ≡ visible_below number visible = rw (visible_more number visible, is_unseen visible number unseen) (append-nil _) in
    record {
      end_is = rw more put.end_is;
      few = rw more (omega (arith, put.few));
      list_is = rw more put.list_is;
    }
