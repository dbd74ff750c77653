-- The lines of a journal, one after another.
use Rattle.std.proofs.Common.{◌≡◌, ℕ, ◌+◌, List, ◌∷◌, ◌++◌, drop, slice_get, Some, ap, sym, ◌∙◌, append_assoc}
use Rattle.std.proofs.lemmas.List.{drop_more}
use Rattle.std.proofs.lemmas.Option.{slice_get_within, get_or_from_slice_get}
use Rattle.ct_book.specs.declared.event.Logged.{Logged}
use Rattle.ct_report.specs.JournalText.{logged_text, journal_text}

-- what is left of a list from an item on
left_from : {X : Type 0} (xs : List X) (n : ℕ) (x : X) → slice_get xs n ≡ Some x → drop n xs ≡ x ∷ drop (n + 1) xs
left_from xs n x found = drop_more xs n x (slice_get_within xs n x found) ∙ ap (λ y. y ∷ drop (n + 1) xs) (get_or_from_slice_get xs n x x found)

-- one more line
pub next_line : (all text longer : List ℕ) (journal : List Logged) (place : ℕ) (logged : Logged) → text ++ journal_text (drop place journal) ≡ all → slice_get journal place ≡ Some logged → longer ≡ text ++ logged_text logged → longer ++ journal_text (drop (place + 1) journal) ≡ all
next_line all text longer journal place logged is found line =
    rw (line, append_assoc) (ap (λ rest. text ++ journal_text rest) (sym (left_from journal place logged found)) ∙ is)
