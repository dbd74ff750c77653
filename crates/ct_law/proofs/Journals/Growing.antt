-- What a journal says, when it grows by one event.
use Rattle.std.proofs.Common.{◌≡◌, ℕ, zero, suc, ◌+◌, ◌≤◌, List, [], ◌∷◌, ◌++◌, Option, Some, None, length, refl, sym}
use Rattle.std.proofs.Common.{ap, ◌∙◌, append_assoc, append-nil, slice_get, map, arith}
use Rattle.std.specs.List.{cons_option}
use Rattle.std.proofs.lemmas.List.Elements.{filter_map-append}
use Rattle.std.proofs.lemmas.Option.{slice_get_within, same_Some}
use Rattle.ct_word.specs.declared.names.Node.{Node}
use Rattle.ct_book.specs.declared.work.Command.{Command}
use Rattle.ct_book.specs.declared.work.Work.TheVariants as work
use Rattle.ct_book.specs.declared.event.Logged.{Logged}
use Rattle.ct_book.specs.Journals.{KeptWork, works_in, numbered}
use Rattle.ct_exec.specs.Controls.{Disk, opening_disk}
use Rattle.ct_machine.specs.declared.act.Opening.{Opening}
use Rattle.ct_machine.specs.States.{Arrival, State, opened}
use Rattle.ct_machine.specs.Events.{after, after_events}
use Rattle.ct_machine.specs.Runs.{replay}
use Rattle.ct_machine.specs.Serial.{disk_after, serial_behind, serial_disk}
use Rattle.ct_machine.specs.Laws.Cells.{Beside, beside_after, beside_behind, beside}
use Rattle.ct_machine.specs.Laws.Standings.{Standings}
use Rattle.ct_machine.specs.Laws.Timely.{Due, due_after, due_behind, due_of}

after_events-append : (s : State) (es fs : List Logged) →
    after_events s (es ++ fs) ≡ after_events (after_events s es) fs
after_events-append s [] fs = refl
after_events-append s (e ∷ es) fs = after_events-append (after s e) es fs

pub replay-append : (o : Opening) (es fs : List Logged) → replay o (es ++ fs) ≡ after_events (replay o es) fs
unfolding replay
replay-append o es fs = after_events-append (opened o) es fs

pub replay-more : (o : Opening) (es : List Logged) (e : Logged) → replay o (es ++ e ∷ []) ≡ after (replay o es) e
replay-more o es e = replay-append o es (e ∷ [])

serial_behind-more : (before es : List Logged) (disk : Disk) (e : Logged) →
    serial_behind before disk (es ++ e ∷ []) ≡ disk_after (before ++ es) e.event (serial_behind before disk es)
serial_behind-more before [] disk e = ap (λ b. disk_after b e.event disk) (sym (append-nil before))
serial_behind-more before (x ∷ es) disk e =
    serial_behind-more (before ++ x ∷ []) es (disk_after before x.event disk) e
    ∙ ap (λ b. disk_after b e.event (serial_behind (before ++ x ∷ []) (disk_after before x.event disk) es))
    (append_assoc before (x ∷ []) es)

pub serial-more : (o : Opening) (es : List Logged) (e : Logged) →
    serial_disk o (es ++ e ∷ []) ≡ disk_after es e.event (serial_disk o es)
unfolding serial_disk
serial-more o es e = serial_behind-more [] es (opening_disk o.lun o.blocks) e

beside_behind-more : (n : ℕ) (before es : List Logged) (b : Beside) (e : Logged) →
    beside_behind n before b (es ++ e ∷ []) ≡ beside_after n (before ++ es) e.event (beside_behind n before b es)
beside_behind-more n before [] b e = ap (λ k. beside_after n k e.event b) (sym (append-nil before))
beside_behind-more n before (x ∷ es) b e =
    beside_behind-more n (before ++ x ∷ []) es (beside_after n before x.event b) e
    ∙ ap (λ k. beside_after n k e.event (beside_behind n (before ++ x ∷ []) (beside_after n before x.event b) es))
    (append_assoc before (x ∷ []) es)

pub beside-more : (o : Opening) (n : ℕ) (es : List Logged) (e : Logged) →
    beside o n (es ++ e ∷ []) ≡ beside_after n es e.event (beside o n es)
unfolding beside
beside-more o n es e = beside_behind-more n [] es _ e

due_behind-more : (standings : Standings) (o : Opening) (before es : List Logged) (d : Due) (e : Logged) →
    due_behind standings o before d (es ++ e ∷ []) ≡ due_after standings o (before ++ es) e e.event
    (due_behind standings o before d es)
due_behind-more standings o before [] d e = ap (λ k. due_after standings o k e e.event d) (sym (append-nil before))
due_behind-more standings o before (x ∷ es) d e =
    due_behind-more standings o (before ++ x ∷ []) es (due_after standings o before x x.event d) e
    ∙ ap (λ k. due_after standings o k e e.event
    (due_behind standings o (before ++ x ∷ []) (due_after standings o before x x.event d) es))
    (append_assoc before (x ∷ []) es)

pub due-more : (standings : Standings) (o : Opening) (es : List Logged) (e : Logged) →
    due_of standings o (es ++ e ∷ []) ≡ due_after standings o es e e.event (due_of standings o es)
unfolding due_of
due-more standings o es e = due_behind-more standings o [] es _ e

-- the works of a journal

abbrev pub work_list : Option KeptWork → List KeptWork
work_list None = []
work_list (Some w) = w ∷ []

pub works_in-more : (es : List Logged) (e : Logged) (o : Option KeptWork) → e.work ≡ o →
    works_in (es ++ e ∷ []) ≡ works_in es ++ work_list o
works_in-more es e o h =
    filter_map-append (λ (l : Logged). l.work) es (e ∷ []) ∙ ap (λ r. works_in es ++ r)
    (ap (λ w. cons_option w []) h ∙ go o)
  where
    go : (o : Option KeptWork) → cons_option o [] ≡ work_list o
    go None = refl
    go (Some w) = refl

pub works_in-none : (es : List Logged) (e : Logged) → e.work ≡ None → works_in (es ++ e ∷ []) ≡ works_in es
works_in-none es e h = works_in-more es e None h ∙ append-nil (works_in es)

-- items by number

pub numbered_front : {A : Type 0} (n : ℕ) (xs : List A) (w d : A) → numbered n xs ≡ Some d →
    numbered n (xs ++ w ∷ []) ≡ Some d
numbered_front zero xs w d e = absurd (cc)
numbered_front {A = A} (suc k) xs w d e = go xs k e
  where
    go : (xs : List A) (k : ℕ) → slice_get xs k ≡ Some d → slice_get (xs ++ w ∷ []) k ≡ Some d
    go [] k e = absurd (cc)
    go (x ∷ xs) zero e = e
    go (x ∷ xs) (suc k) e = go xs k e

pub numbered_last : {A : Type 0} (n : ℕ) (xs : List A) (w : A) → n ≡ length xs + 1 → numbered n (xs ++ w ∷ []) ≡ Some w
numbered_last zero xs w e = absurd (omega arith)
numbered_last {A = A} (suc k) xs w e = go xs k (omega arith)
  where
    go : (xs : List A) (k : ℕ) → k ≡ length xs → slice_get (xs ++ w ∷ []) k ≡ Some w
    go [] zero e = refl
    go [] (suc k) e = absurd (omega arith)
    go (x ∷ xs) zero e = absurd (omega arith)
    go (x ∷ xs) (suc k) e = go xs k (omega arith)

pub numbered_within : {A : Type 0} (n : ℕ) (xs : List A) (d : A) → numbered n xs ≡ Some d → (1 ≤ n) × (n ≤ length xs)
numbered_within zero xs d e = absurd (cc)
numbered_within (suc k) xs d e = let w = slice_get_within xs k d e in (omega arith, omega (arith, w))

pub numbered_older : {A : Type 0} (n : ℕ) (xs : List A) (w d : A) → numbered n (xs ++ w ∷ []) ≡ Some d →
    (n ≡ length xs + 1 → ⊥) → numbered n xs ≡ Some d
numbered_older zero xs w d e f = absurd (cc)
numbered_older {A = A} (suc k) xs w d e f = go xs k e (λ i. f (omega (arith, i)))
  where
    go : (xs : List A) (k : ℕ) → slice_get (xs ++ w ∷ []) k ≡ Some d → (k ≡ length xs → ⊥) → slice_get xs k ≡ Some d
    go [] zero e f = absurd (f refl)
    go [] (suc k) e f = absurd (cc)
    go (x ∷ xs) zero e f = e
    go (x ∷ xs) (suc k) e f = go xs k e (λ i. f (ap suc i))

pub numbered-map : {A B : Type 0} (f : A → B) (n : ℕ) (xs : List A) (d : A) → numbered n xs ≡ Some d →
    numbered n (map f xs) ≡ Some (f d)
numbered-map f zero xs d e = absurd (cc)
numbered-map {A = A} {B = B} f (suc k) xs d e = go xs k e
  where
    go : (xs : List A) (k : ℕ) → slice_get xs k ≡ Some d → slice_get (map f xs) k ≡ Some (f d)
    go [] k e = absurd (cc)
    go (x ∷ xs) zero e = let same : x ≡ d = cc in ap (λ z. Some (f z)) same
    go (x ∷ xs) (suc k) e = go xs k e

-- an arrival whose work is this one
pub numbered_back : (n : ℕ) (xs : List Arrival) (c : Command) →
    numbered n (map (λ (a : Arrival). a.work) xs) ≡ Some (work.Cmd c) →
    (node : Node) × (numbered n xs ≡ Some (record { node = node; work = work.Cmd c }))
numbered_back zero xs c e = absurd (cc)
numbered_back (suc k) xs c e = go xs k e
  where
    go : (xs : List Arrival) (k : ℕ) → slice_get (map (λ (a : Arrival). a.work) xs) k ≡ Some (work.Cmd c) →
        (node : Node) × (slice_get xs k ≡ Some (record { node = node; work = work.Cmd c }))
    go [] k e = absurd (cc)
    go (x ∷ xs) zero e =
        let w : x.work ≡ work.Cmd c = same_Some _ _ e in (x.node, ap (λ z. Some (record { node = x.node; work = z })) w)
    go (x ∷ xs) (suc k) e = go xs k e
