-- A command that made block operations ends GOOD, or one of them compares and found a difference.
use Rattle.std.proofs.Common.{◌≡◌, ℕ, inl, inr, Bool, true, false, ◌||◌, List, [], ◌∷◌, ◌++◌, Option, Some, None}
use Rattle.std.proofs.Common.{length, take, drop, refl, sym, ap, ◌∙◌}
use Rattle.std.proofs.Common.{subst, eqb-true, nat_eq, append_assoc, append-nil, take-append-drop}
use Rattle.std.specs.List.{list_any}
use Rattle.std.proofs.lemmas.Bool.{or_left, or_right}
use Rattle.std.proofs.lemmas.List.{length-replicate}
use Rattle.std.proofs.lemmas.List.Folds.{list_any-append}
use Rattle.std.specs.Prelude.{replicate, IfSome}
use Rattle.ct_sense.specs.declared.reply.Reply.{Reply}
use Rattle.ct_plan.specs.declared.operation.BlockOp.{BlockOp}
use Rattle.ct_plan.specs.declared.operation.BlockOp.TheVariants as operations
use Rattle.ct_plan.specs.Cells.{Cells, Progress, performed, difference_at, unless, after}
use Rattle.ct_book.specs.declared.work.Command.{Command}
use Rattle.ct_book.specs.declared.work.Work.TheVariants as work
use Rattle.ct_book.specs.declared.event.Event.{Event}
use Rattle.ct_book.specs.declared.event.Event.TheVariants as event
use Rattle.ct_book.specs.declared.event.Logged.{Logged}
use Rattle.ct_book.specs.Journals.{KeptWork, numbered, works_in}
use Rattle.ct_exec.specs.Executions.{plan_in, reply_moved}
use Rattle.ct_machine.specs.declared.act.Opening.{Opening}
use Rattle.ct_machine.specs.Serial.{serial_disk}
use Rattle.ct_machine.specs.Laws.Journals.{made_by, work_in, IsCommandOf, ended_by, AtEnd}
use Rattle.ct_machine.specs.Laws.Cells.{Beside, progress_made, kept_if, moved_beside, beside_after, beside_behind}
use Rattle.ct_machine.specs.Laws.Cells.{beside, RepliesByCells}
use Rattle.ct_machine.specs.Laws.Endings.{is_compare, IsGoodOrDiffers, EndsGoodOrDiffersAt}
use Rattle.ct_law.proofs.Journals.Growing.{works_in-more, work_list, numbered_front}
use Rattle.ct_law.proofs.Cells.Blocks.{perform_size}

-- a difference is found by an operation that compares
compares : (out : List ℕ) (op : BlockOp) (cells : Cells) (offset : ℕ) →
    difference_at out op cells ≡ Some offset → is_compare op ≡ true
compares out (operations.Get lba) cells offset e = absurd (cc)
compares out (operations.Look lba) cells offset e = absurd (cc)
compares out (operations.Put lba place) cells offset e = absurd (cc)
compares out (operations.Zero lba) cells offset e = absurd (cc)
compares out (operations.Compare lba place) cells offset e = refl

one_compares : (out : List ℕ) (ops : List BlockOp) (cells : Cells) (offset : ℕ) →
    (performed out ops cells).difference ≡ Some offset → list_any is_compare ops ≡ true
one_compares out [] cells offset e = absurd (cc)
one_compares out (op ∷ ops) cells offset e =
    go (difference_at out op cells) refl e (one_compares out ops (after out op cells) offset)
  where
    others : Progress
    others = performed out ops (after out op cells)

    go : (found : Option ℕ) → difference_at out op cells ≡ found →
        (unless found cells others).difference ≡ Some offset →
        (others.difference ≡ Some offset → list_any is_compare ops ≡ true) →
        (is_compare op || list_any is_compare ops) ≡ true
    go None is differs later = or_right (is_compare op) _ (later differs)
    go (Some at) is differs later = or_left _ _ (compares out op cells at is)

some_taken : (k : ℕ) (ops : List BlockOp) → list_any is_compare (take k ops) ≡ true → list_any is_compare ops ≡ true
some_taken k ops e =
    ap (list_any is_compare) (sym (take-append-drop k ops)) ∙ list_any-append is_compare (take k ops) (drop k ops)
    ∙ or_left _ _ e

some_dropped : (k : ℕ) (ops : List BlockOp) → list_any is_compare (drop k ops) ≡ true → list_any is_compare ops ≡ true
some_dropped k ops e =
    ap (list_any is_compare) (sym (take-append-drop k ops)) ∙ list_any-append is_compare (take k ops) (drop k ops)
    ∙ or_right (list_any is_compare (take k ops)) _ e

-- the command with a number stays
known_more : (n : ℕ) (journal : List Logged) (e : Logged) (c : Command) → IsCommandOf journal n c →
    IsCommandOf (journal ++ e ∷ []) n c
known_more n journal e c known = ap (numbered n) (works_in-more journal e e.work refl) ∙ go e.work
  where
    go : (came : Option KeptWork) → numbered n (works_in journal ++ work_list came) ≡ Some (work.Cmd c)
    go None = ap (numbered n) (append-nil (works_in journal)) ∙ known
    go (Some w) = numbered_front n (works_in journal) w (work.Cmd c) known

-- what one command found beside a journal, it found by an operation that compares
record Found (o : Opening) (n : ℕ) (journal : List Logged) (b : Beside) : Type 0 where
  size : length b.blocks ≡ o.blocks
  compares : (offset : ℕ) → b.difference ≡ Some offset →
      (c : Command) × IsCommandOf journal n c × (list_any is_compare (plan_in o.blocks c) ≡ true)

found_more : (o : Opening) (n : ℕ) (journal : List Logged) (e : Logged) (b : Beside) → Found o n journal b →
    Found o n (journal ++ e ∷ []) (beside_after n journal e.event b)
found_more o n journal e b h = go e.event
  where
    same : Found o n (journal ++ e ∷ []) b
    same = record {
      size = h.size;
      compares = λ offset differs.
          let found = h.compares offset differs in (found.0, known_more n journal e found.0 found.1, found.2);
    }

    by : (number made count : ℕ) (c : Command) → work_in number journal ≡ Some (work.Cmd c) → (t : Bool) →
        nat_eq number n ≡ t →
        Found o n (journal ++ e ∷ [])
        (kept_if t (progress_made c made count (record { blocks = b.blocks; got = b.got }) (length b.blocks)) b)
    by number made count c known false is = record {
      size = perform_size c.out (take count (drop made (plan_in (length b.blocks) c)))
          (record { blocks = b.blocks; got = b.got })
          ∙ h.size;
      compares = same.compares;
    }
    by number made count c known true is = record {
      size = perform_size c.out (take count (drop made (plan_in (length b.blocks) c)))
          (record { blocks = b.blocks; got = b.got })
          ∙ h.size;
      compares = λ offset differs. (
        c,
        known_more n journal e c (ap (λ m. work_in m journal) (sym (eqb-true number n is)) ∙ known),
        ap (λ k. list_any is_compare (plan_in k c)) (sym h.size)
            ∙ some_dropped made (plan_in (length b.blocks) c)
            (some_taken count (drop made (plan_in (length b.blocks) c))
            (one_compares c.out (take count (drop made (plan_in (length b.blocks) c)))
            (record { blocks = b.blocks; got = b.got }) offset differs)),
      );
    }

    moved : (number made count : ℕ) (w : Option KeptWork) → work_in number journal ≡ w →
        Found o n (journal ++ e ∷ []) (moved_beside n number made count w b)
    moved number made count None known = same
    moved number made count (Some (work.Ask ask)) known = same
    moved number made count (Some (work.Cmd c)) known = by number made count c known (nat_eq number n) refl

    go : (happened : Event) → Found o n (journal ++ e ∷ []) (beside_after n journal happened b)
    go (event.Moved number count) = moved number (made_by number journal) count (work_in number journal) refl
    go (event.Came number node line) = same
    go (event.Enter number) = same
    go (event.Turned number) = same
    go (event.Begun number) = same
    go (event.Granted number) = same
    go (event.Ended number) = same
    go (event.Cut number puts why told) = same
    go (event.Asked number) = same
    go (event.Closed number outcome) = same
    go (event.Deliver node kind number) = same

found_behind : (o : Opening) (n : ℕ) (before journal : List Logged) (b : Beside) → Found o n before b →
    Found o n (before ++ journal) (beside_behind n before b journal)
found_behind o n before [] b h = subst (λ j. Found o n j b) (sym (append-nil before)) h
found_behind o n before (e ∷ journal) b h =
    subst (λ j. Found o n j (beside_behind n before b (e ∷ journal))) (append_assoc before (e ∷ []) journal)
    (found_behind o n (before ++ e ∷ []) journal (beside_after n before e.event b) (found_more o n before e b h))

found_in : (o : Opening) (n : ℕ) (journal : List Logged) → Found o n journal (beside o n journal)
unfolding beside
found_in o n journal =
    found_behind o n [] journal _
    (record { size = length-replicate o.blocks (replicate 512 0); compares = λ offset e. absurd (cc) })

pub ends_good : (o : Opening) (before : List Logged) (happened : Event) (replied : Option Reply) →
    AtEnd (RepliesByCells o before replied) happened → AtEnd (EndsGoodOrDiffersAt o before replied) happened
ends_good o before happened replied h = at (ended_by happened) h
  where
    go : (n : ℕ) (c : Command) → IsCommandOf before n c → (found : Option ℕ) → (beside o n before).difference ≡ found →
        replied ≡ Some (reply_moved (serial_disk o before).control (beside o n before).difference
        (beside o n before).got) →
        IsGoodOrDiffers (serial_disk o before).control (plan_in o.blocks c) replied
    go n c known None is e =
        inl (
          (beside o n before).got,
          e ∙ ap (λ f. Some (reply_moved (serial_disk o before).control f (beside o n before).got)) is,
        )
    go n c known (Some offset) is e =
        let found = (found_in o n before).compares offset is in
        let same : found.0 ≡ c = let k : Some (work.Cmd found.0) ≡ Some (work.Cmd c) = sym found.1 ∙ known in cc in
        inr (
          offset,
          ap (λ z. list_any is_compare (plan_in o.blocks z)) (sym same) ∙ found.2,
          e ∙ ap (λ f. Some (reply_moved (serial_disk o before).control f (beside o n before).got)) is,
        )

    at : (ended : Option ℕ) → IfSome ended (RepliesByCells o before replied) →
        IfSome ended (EndsGoodOrDiffersAt o before replied)
    at None h = tt
    at (Some n) h = λ c known began. go n c known (beside o n before).difference refl (h began)
