-- What holds between two events, and what the journal owes at each event.
use Rattle.std.proofs.Common.{◌≡◌, ℕ, Bool, true, false, List, [], ◌∷◌, ◌++◌, Option, Some, None, length, refl, sym, ap}
use Rattle.std.proofs.Common.{◌∙◌, subst}
use Rattle.std.proofs.lemmas.Bool.{both_ways}
use Rattle.ct_sense.specs.declared.reply.Reply.{Reply}
use Rattle.ct_book.specs.declared.work.Work.TheVariants as work
use Rattle.ct_book.specs.declared.event.Event.{Event}
use Rattle.ct_book.specs.declared.event.Event.TheVariants as event
use Rattle.ct_book.specs.declared.event.Logged.{Logged}
use Rattle.ct_book.specs.Journals.{numbered, works_in}
use Rattle.ct_exec.specs.Controls.{Disk, is_unrestricted}
use Rattle.ct_machine.specs.declared.act.Opening.{Opening}
use Rattle.ct_machine.specs.States.{Task, Stage, Waiting, Here, There, Arrival, State, is_waiting, has_begun}
use Rattle.ct_machine.specs.Events.Functions.{works_of}
use Rattle.ct_machine.specs.Serial.{disk_after, serial_disk}
use Rattle.ct_machine.specs.Laws.Journals.{Each, has, is_entry, is_begin, is_enter, comes_first, IsCommandOf, AtEnd}
use Rattle.ct_machine.specs.Laws.Once.{IsFirstEntry}
use Rattle.ct_machine.specs.Laws.Orderly.{goes_first, IsBehindAll, BeginsOrderly}
use Rattle.ct_machine.specs.Laws.Reorders.{KeepsOrder}
use Rattle.ct_machine.specs.Laws.Prefix.{RecordsPrefixAt}
use Rattle.ct_machine.specs.Laws.Cells.{RepliesByCells, MakesPlanAt, Beside, beside, beside_after}
use Rattle.ct_machine.specs.Laws.Kinds.{IsOfItsKind}
use Rattle.ct_machine.specs.Laws.Standings.{standings_of}
use Rattle.ct_machine.specs.Laws.Legal.{IsRestricted, IsLegalAt, IsSoundAt}
use Rattle.ct_law.proofs.Lists.Tasks.{Has}
use Rattle.ct_law.proofs.Rows.Laws.{Laws}
use Rattle.ct_law.proofs.Cells.Held.{Rules, Holds}
use Rattle.ct_law.proofs.Rows.Ready.{IsReady}
use Rattle.ct_law.proofs.Cells.Ends.{ready_must}
use Rattle.ct_law.proofs.Journals.Journal.{each_front, each_last}
use Rattle.ct_law.proofs.Journals.Growing.{numbered-map, serial-more, beside-more}
use Rattle.ct_law.proofs.Frame.Books.{Books, is_over, arrival_for}
use Rattle.ct_law.proofs.Frame.Orders.{Orders}
use Rattle.ct_law.proofs.Frame.Opens.{Opens}

-- what a journal owes at an event
pub record LawfulAt (o : Opening) (before : List Logged) (l : Logged) : Type 0 where
  pub once : IsFirstEntry before l
  pub typed : IsOfItsKind before l.event
  pub orderly : BeginsOrderly o before l.event
  pub reorders : KeepsOrder o before l.event
  pub plan : MakesPlanAt o before l.event
  pub prefix : RecordsPrefixAt o before l.event
  pub cells : AtEnd (RepliesByCells o before l.reply) l.event
  pub sound : IsSoundAt (standings_of o) o before l.event l.reply
  pub legal : IsRestricted o before → IsLegalAt (standings_of o) o before l.event l.reply

-- all but the blocks and the control
pub record Frame (P : ℕ → ℕ → Type 0) (o : Opening) (s : State) (journal : List Logged) : Type 0 where
  pub each : Each (LawfulAt o) journal
  pub works : works_of s ≡ works_in journal
  pub size : length s.blocks ≡ o.blocks
  pub books : Books journal s.arrivals s.tasks s.to_a
  pub orders : Orders journal s.tasks
  pub opens : Opens P journal s.arrivals s.tasks s.functions s.to_a s.to_b

abbrev pub got_at : Stage → List ℕ
got_at (Here done got) = got
got_at (There done got) = got
got_at _ = []

-- what a command got from the cells so far, and the difference that it found
pub record Gained (b : Beside) (found : Option ℕ) (data_so_far : List ℕ) : Type 0 where
  pub got : b.got ≡ data_so_far
  pub difference : b.difference ≡ found

-- the blocks are the cells, and what the commands got is what they got from them; none found a difference
pub record Cells (o : Opening) (s : State) (journal : List Logged) : Type 0 where
  pub blocks : (n : ℕ) → s.blocks ≡ (beside o n journal).blocks
  pub gained : (x : Task) → Has s.tasks x → is_over x.stage ≡ false →
      Gained (beside o x.no journal) None (got_at x.stage)
  pub ungained : (n : ℕ) → has (is_enter n) journal ≡ false → Gained (beside o n journal) None []

pub record Inv (P : ℕ → ℕ → Type 0) (o : Opening) (s : State) (journal : List Logged) : Type 0 where
  pub frame : Frame P o s journal
  pub rules : Rules o.blocks (serial_disk o journal) s.control s.tasks
  pub cells : Cells o s journal
  pub holds : IsRestricted o journal → Holds o.blocks (serial_disk o journal) s.blocks s.tasks

-- What holds also between the event at which a command, the one with this number, found a difference and its entry: all
-- but what it got, and what the blocks are beside the serial disk's.
pub record Others (P : ℕ → ℕ → Type 0) (o : Opening) (s : State) (journal : List Logged) (number : ℕ) : Type 0 where
  pub frame : Frame P o s journal
  pub rules : Rules o.blocks (serial_disk o journal) s.control s.tasks
  pub blocks : (n : ℕ) → s.blocks ≡ (beside o n journal).blocks
  pub gained : (x : Task) → Has s.tasks x → (x.no ≡ number → ⊥) → is_over x.stage ≡ false →
      Gained (beside o x.no journal) None (got_at x.stage)
  pub ungained : (n : ℕ) → has (is_enter n) journal ≡ false → Gained (beside o n journal) None []

pub others_of : (P : ℕ → ℕ → Type 0) (o : Opening) (s : State) (journal : List Logged) (number : ℕ) →
    Inv P o s journal → Others P o s journal number
others_of P o s journal number h = record {
  frame = h.frame;
  rules = h.rules;
  blocks = h.cells.blocks;
  gained = λ x hx other alive. h.cells.gained x hx alive;
  ungained = h.cells.ungained;
}

-- an event with no work and no reply
abbrev pub told : Event → Logged
told happened = record { event = happened; work = None; reply = None }

abbrev pub replied : Event → Reply → Logged
replied happened reply = record { event = happened; work = None; reply = Some reply }

-- the modifier says restricted now, where it said so all along
pub restricted_before : (o : Opening) (journal : List Logged) (e : Logged) → IsRestricted o (journal ++ e ∷ []) →
    IsRestricted o journal
restricted_before o journal e r = record {
  each = each_front Q [] journal e r.each;
  last = each_last Q [] journal e r.each;
}
  where
    Q : List Logged → Logged → Type 0
    Q before l = is_unrestricted (serial_disk o before).control ≡ false

-- a command of the task set is the work of its number
pub known_in : (P : ℕ → ℕ → Type 0) (o : Opening) (s : State) (journal : List Logged) (x : Task) → Frame P o s journal →
    Has s.tasks x → IsCommandOf journal x.no x.command
known_in P o s journal x h hx =
    ap (numbered x.no) (sym h.works) ∙ numbered-map (λ (a : Arrival). a.work) x.no s.arrivals (arrival_for x)
    (h.books.known x hx)

-- an event that ends nothing leaves the serial disk
abbrev pub is_done : Event → Bool
is_done (event.Ended number) = true
is_done (event.Cut number puts why told) = true
is_done (event.Closed number outcome) = true
is_done (event.Came number node line) = false
is_done (event.Enter number) = false
is_done (event.Turned number) = false
is_done (event.Begun number) = false
is_done (event.Granted number) = false
is_done (event.Moved number count) = false
is_done (event.Asked number) = false
is_done (event.Deliver node kind number) = false

still_disk : (before : List Logged) (e : Event) (d : Disk) → is_done e ≡ false → disk_after before e d ≡ d
still_disk before (event.Ended number) d h = absurd (cc)
still_disk before (event.Cut number puts why told) d h = absurd (cc)
still_disk before (event.Closed number outcome) d h = absurd (cc)
still_disk before (event.Came number node line) d h = refl
still_disk before (event.Enter number) d h = refl
still_disk before (event.Turned number) d h = refl
still_disk before (event.Begun number) d h = refl
still_disk before (event.Granted number) d h = refl
still_disk before (event.Moved number count) d h = refl
still_disk before (event.Asked number) d h = refl
still_disk before (event.Deliver node kind number) d h = refl

pub serial-same : (o : Opening) (journal : List Logged) (e : Logged) → is_done e.event ≡ false →
    serial_disk o (journal ++ e ∷ []) ≡ serial_disk o journal
serial-same o journal e h = serial-more o journal e ∙ still_disk journal e.event (serial_disk o journal) h

-- an event that moves nothing leaves the cells
abbrev pub is_move : Event → Bool
is_move (event.Moved number count) = true
is_move (event.Ended number) = false
is_move (event.Cut number puts why told) = false
is_move (event.Closed number outcome) = false
is_move (event.Came number node line) = false
is_move (event.Enter number) = false
is_move (event.Turned number) = false
is_move (event.Begun number) = false
is_move (event.Granted number) = false
is_move (event.Asked number) = false
is_move (event.Deliver node kind number) = false

still_beside : (n : ℕ) (before : List Logged) (e : Event) (b : Beside) → is_move e ≡ false →
    beside_after n before e b ≡ b
still_beside n before (event.Moved number count) b h = absurd (cc)
still_beside n before (event.Ended number) b h = refl
still_beside n before (event.Cut number puts why told) b h = refl
still_beside n before (event.Closed number outcome) b h = refl
still_beside n before (event.Came number node line) b h = refl
still_beside n before (event.Enter number) b h = refl
still_beside n before (event.Turned number) b h = refl
still_beside n before (event.Begun number) b h = refl
still_beside n before (event.Granted number) b h = refl
still_beside n before (event.Asked number) b h = refl
still_beside n before (event.Deliver node kind number) b h = refl

pub beside-same : (o : Opening) (n : ℕ) (journal : List Logged) (e : Logged) → is_move e.event ≡ false →
    beside o n (journal ++ e ∷ []) ≡ beside o n journal
beside-same o n journal e h = beside-more o n journal e ∙ still_beside n journal e.event (beside o n journal) h

-- the cells after such an event: what each command that isn't over got, it got before
pub cells_event : (o : Opening) (s now : State) (journal : List Logged) (e : Logged) →
    is_move e.event ≡ false → now.blocks ≡ s.blocks → ((n : ℕ) → s.blocks ≡ (beside o n journal).blocks) →
    ((y : Task) → Has now.tasks y → is_over y.stage ≡ false → Gained (beside o y.no journal) None (got_at y.stage)) →
    ((n : ℕ) → has (is_enter n) (journal ++ e ∷ []) ≡ false → Gained (beside o n journal) None []) →
    Cells o now (journal ++ e ∷ [])
cells_event o s now journal e still same old gained ungained = record {
  blocks = λ n. same ∙ old n ∙ ap (λ (b : Beside). b.blocks) (sym (beside-same o n journal e still));
  gained = λ y hy alive.
      subst (λ b. Gained b None (got_at y.stage)) (sym (beside-same o y.no journal e still)) (gained y hy alive);
  ungained = λ n k. subst (λ b. Gained b None []) (sym (beside-same o n journal e still)) (ungained n k);
}

-- without a change of the task set
pub cells_quiet : (o : Opening) (s now : State) (journal : List Logged) (e : Logged) → Cells o s journal →
    is_move e.event ≡ false → now.blocks ≡ s.blocks → now.tasks ≡ s.tasks →
    ((n : ℕ) → has (is_enter n) (journal ++ e ∷ []) ≡ false → has (is_enter n) journal ≡ false) →
    Cells o now (journal ++ e ∷ [])
cells_quiet o s now journal e h still same tasks old =
    cells_event o s now journal e still same h.blocks
    (λ y hy alive. h.gained y (subst (λ q. Has q y) tasks hy) alive) (λ n k. h.ungained n (old n k))

-- a command that is ready begins in order
pub in_order : (P : ℕ → ℕ → Type 0) (laws : Laws) (o : Opening) (s : State) (journal : List Logged) (x : Task) →
    Inv P o s journal → Has s.tasks x → x.stage ≡ Waiting → IsReady o.blocks (is_unrestricted s.control) x s.tasks →
    IsBehindAll o journal x.no
in_order P laws o s journal x h hx st ready a ca cb ne wa wb entered m = go (has (is_entry a) journal) refl
  where
    go : (t : Bool) → has (is_entry a) journal ≡ t → has (is_entry a) journal ≡ true
    go true e = e
    go false e =
        let live = h.frame.books.live a entered e in
        let y : Task = live.0 in
        let alive : is_over y.stage ≡ false =
        sym (h.frame.books.entry y live.1) ∙ ap (λ n. has (is_entry n) journal) live.2 ∙ e in
        let other : y.no ≡ x.no → ⊥ = λ k. ne (sym live.2 ∙ k) in
        let cy : y.command ≡ ca = let k : Some (work.Cmd y.command) ≡ Some (work.Cmd ca) = sym
        (known_in P o s journal y h.frame live.1) ∙ ap (λ n. numbered n (works_in journal)) live.2 ∙ wa in cc in
        let cx : x.command ≡ cb = let k : Some (work.Cmd x.command) ≡ Some (work.Cmd cb) = sym
        (known_in P o s journal x h.frame hx) ∙ wb in cc in
        let began : has (is_begin a) journal ≡ has_begun y.stage =
        ap (λ n. has (is_begin n) journal) (sym live.2) ∙ h.frame.books.begin y live.1 alive in
        let first : Bool = comes_first (is_enter a) (is_enter x.no) journal in
        let free : Bool = is_unrestricted s.control in
        let m0 : goes_first o.blocks free first (has (is_begin a) journal) ca cb ≡ true =
        subst (λ k. goes_first o.blocks (is_unrestricted k) first (has (is_begin a) journal) ca cb ≡ true)
        (sym h.rules.control) m in
        let m1 : goes_first o.blocks free first (has_begun y.stage) y.command x.command ≡ true =
        subst (λ b. goes_first o.blocks free first b y.command x.command ≡ true) began
        (subst (λ c. goes_first o.blocks free first (has (is_begin a) journal) y.command c ≡ true) (sym cx)
        (subst (λ c. goes_first o.blocks free first (has (is_begin a) journal) c cb ≡ true) (sym cy) m0)) in
        let never = ready_must laws o.blocks free first s.tasks x y h.rules.single ready st live.1 other
        (λ hd f. h.frame.orders.first y x live.1 hx other hd
        (subst (λ n. comes_first (is_enter n) (is_enter x.no) journal ≡ true) (sym live.2) f))
        (λ hd hh. h.frame.orders.head y x live.1 hx other hd hh (ap is_waiting st)) in
        absurd (both_ways _ never m1)
