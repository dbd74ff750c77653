-- A work comes at a node: here it is taken up, at the other node it is sent on.
use Rattle.std.proofs.Common.{◌≡◌, ℕ, Bool, true, false, [], ◌∷◌, ◌++◌, List, Some, ap, ◌∙◌, refl, sym, subst, cond}
use Rattle.ct_word.specs.declared.names.Node.{Node}
use Rattle.ct_word.specs.declared.names.Room.{Room}
use Rattle.ct_book.specs.declared.work.Work.TheVariants as work
use Rattle.ct_book.specs.Journals.{KeptWork, arrived, numbered}
use Rattle.ct_machine.specs.declared.act.Answer.TheVariants as answer
use Rattle.ct_machine.specs.States.{Arrival, Message, State, is_remote}
use Rattle.ct_machine.specs.Events.{after}
use Rattle.ct_machine.specs.Events.Sends.{message, to_a}
use Rattle.ct_machine.specs.Events.Arrivals.{with_room, pieces_of, kind_of, after_came}
use Rattle.ct_machine.specs.Acts.Turns.{Turn, writes}
use Rattle.ct_machine.specs.Acts.Answers.{Done}
use Rattle.ct_machine.specs.Acts.Arrivals.{next_number, arriving_here, arriving_at}
use Rattle.ct_law.proofs.Journals.Growing.{numbered_last}
use Rattle.ct_law.proofs.Events.Steps.{came_with}

pub arriving_by : (Q : Turn → Type 0) (node : Node) (w : KeptWork) (n : ℕ) (s : State) →
    (is_remote node ≡ true → Q (writes (arrived n node w) s)) →
    (is_remote node ≡ false → Q (arriving_here node w n s).turn) → Q (arriving_at node w n s).turn
arriving_by Q node w n s sent taken = go (is_remote node) sent taken
  where
    go : (t : Bool) → (t ≡ true → Q (writes (arrived n node w) s)) →
        (t ≡ false → Q (arriving_here node w n s).turn) →
        Q (cond {A = Done} t (record { turn = writes (arrived n node w) s; answer = answer.Sent n })
        (arriving_here node w n s)).turn
    go true sent taken = sent refl
    go false sent taken = taken refl

-- what is on its way to A behind a work that came at the other node, or here
abbrev pub sent_if : Bool → ℕ → KeptWork → List Message → List Message
sent_if true n w ms = ms ++ message (kind_of w) n ∷ []
sent_if false n w ms = ms

-- the state before a work is sent on
abbrev pub came_in : Arrival → State → State
came_in arrival s =
    with_room (pieces_of arrival.work s) arrival.work (record s { arrivals = s.arrivals ++ arrival ∷ [] })

-- what holds of the state that a work leaves that came here, or at the other node
pub came_by : (P : State → Type 0) (n : ℕ) (node : Node) (w : KeptWork) (s : State) (t : Bool) → is_remote node ≡ t →
    P (cond {A = State} t (to_a (message (kind_of w) n) (came_in (record { node = node; work = w }) s))
    (came_in (record { node = node; work = w }) s)) →
    P (after_came n node (Some w) s)
came_by P n node w s t e h =
    let arrival : Arrival = record { node = node; work = w } in
    subst (λ b. P (cond {A = State} b (to_a (message (kind_of w) n) (came_in arrival s)) (came_in arrival s))) (sym e) h

-- the state that a work leaves that came
pub after_arrived : (n : ℕ) (node : Node) (w : KeptWork) (s : State) → (room : Room) ×
    (after s (arrived n node w) ≡ came_with s (record { node = node; work = w }) room
    (sent_if (is_remote node) n w s.to_a))
unfolding after
after_arrived n node w s = ((came_in (record { node = node; work = w }) s).room, go (is_remote node) w)
  where
    go : (t : Bool) (w : KeptWork) →
        cond {A = State} t (to_a (message (kind_of w) n) (came_in (record { node = node; work = w }) s))
        (came_in (record { node = node; work = w }) s)
        ≡ came_with s (record { node = node; work = w }) (came_in (record { node = node; work = w }) s).room
        (sent_if t n w s.to_a)
    go true (work.Cmd c) = refl
    go true (work.Ask ask) = refl
    go false (work.Cmd c) = refl
    go false (work.Ask ask) = refl

pub came_last : (s : State) (node : Node) (w : KeptWork) →
    numbered (next_number s) (after s (arrived (next_number s) node w)).arrivals ≡ Some
    (record { node = node; work = w })
came_last s node w =
    ap (λ (t : State). numbered (next_number s) t.arrivals) (after_arrived (next_number s) node w s).1 ∙ numbered_last
    (next_number s) s.arrivals (record { node = node; work = w }) refl
