-- A pair behind an act that did what the machine does.
use Rattle.std.proofs.Common.{◌≡◌, ℕ, zero, suc, ◌+◌, ◌<◌, ◌≤◌, List, [], ◌∷◌, ◌++◌, Bool, false, nat_lt, if◌then◌else◌, Option, Some, None, IsSome, map, refl, sym, ap, ◌∙◌, subst, arith}
use Rattle.std.specs.List.{All}
use Rattle.std.proofs.lemmas.List.Elements.{All-append}
use Rattle.std.proofs.lemmas.List.Sums.{fold-append}
use Rattle.std.proofs.lemmas.Bool.{false≢true}
use Rattle.std.proofs.lemmas.List.{append-nil}
use Rattle.ct_word.specs.declared.names.Node.{Node}
use Rattle.ct_word.specs.declared.names.Node.TheVariants.{A, B}
use Rattle.ct_tmf.specs.declared.function.Ask.{Ask}
use Rattle.ct_book.specs.declared.event.Logged.{Logged}
use Rattle.ct_book.specs.declared.work.Command.{Command}
use Rattle.ct_book.specs.declared.work.Work.TheVariants as work
use Rattle.ct_book.specs.Journals.{KeptWork, BookState}
use Rattle.ct_machine.specs.declared.act.Act.{Act}
use Rattle.ct_machine.specs.declared.act.Act.TheVariants as act
use Rattle.ct_machine.specs.declared.act.Answer.{Answer}
use Rattle.ct_machine.specs.declared.act.Answer.TheVariants as answer
use Rattle.ct_machine.specs.declared.act.Opening.{Opening}
use Rattle.ct_machine.specs.States.{State, task_of}
use Rattle.ct_machine.specs.Events.{after_events}
use Rattle.ct_machine.specs.Acts.Answers.{Done, unchanged}
use Rattle.ct_machine.specs.Acts.{doing, Written, act_of}
use Rattle.ct_machine.specs.Acts.Arrivals.{next_number, has_room_for, arriving, arriving_at}
use Rattle.ct_machine.specs.Acts.Steps.{stepping}
use Rattle.ct_machine.specs.Acts.Next.{stepping_next, next_step}
use Rattle.ct_machine.specs.Runs.{replay, IsAtNode, IsAllowed, Move, written, journal_of, IsRun}
use Rattle.ct_law.proofs.Journals.Growing.{replay-append}
use Rattle.ct_lun.specs.Desk.{Desk}
use Rattle.ct_lun.specs.States.{at_a, state_of}
use Rattle.ct_lun.specs.Agreement.{AgreesWith}
use Rattle.ct_lun.specs.Rooms.{room_of}
use Rattle.ct_lun.specs.Calls.{Does}
use Rattle.ct_lun.specs.Calls.{medium_cuts}
use Rattle.ct_plan.specs.Pieces.{faults_at}
use Rattle.ct_pair.specs.Pairs.{IsPair, Acts}
use Rattle.ct_pair.proofs.Events.{arrivals_stay}
use Rattle.ct_lun.proofs.Does.{medium_cuts-append}
use Rattle.ct_pair.proofs.Steps.{steps, steps_next}

-- a run grows by an act that can come

one_move : (o : Opening) (move : Move) → IsAllowed o move.act → All (λ (m : Move). IsAllowed o m.act) (move ∷ [])
one_move o move h zero d within = h
one_move o move h (suc k) d within = absurd (omega (arith, within))

pub run_more : (o : Opening) (journal : List Logged) (a : Act) (fault : Option ℕ) → IsAllowed o a → IsRun o journal → IsRun o (journal ++ (act_of (replay o journal) a fault).journal)
unfolding journal_of
run_more o journal a fault h run =
    let move : Move = record { act = a; fault = fault } in
    record {
      moves = run.moves ++ move ∷ [];
      allowed = All-append (λ (m : Move). IsAllowed o m.act) run.moves (move ∷ []) run.allowed (one_move o move h);
      made_by = ap (λ (j : List Logged). written o j move) run.made_by ∙ sym (fold-append (written o) [] run.moves (move ∷ []));
    }

-- what an act did, with its state, its room and its faults
pub record Did (o : Opening) (d d' : Desk) (p p' : BookState) (a : Act) (fault : Option ℕ) : Type 0 where
  pub journal : p'.journal ≡ p.journal ++ (act_of (state_of d p) a fault).journal
  pub state : state_of d' p' ≡ after_events (state_of d p) (act_of (state_of d p) a fault).journal
  pub agrees : AgreesWith d' p'
  pub room : room_of (state_of d' p') ≤ p'.spare
  pub cuts : medium_cuts (act_of (state_of d p) a fault).journal ≡ faults_at fault
  pub counted : d'.faults ≡ d.faults + faults_at fault

rises : (fault : Option ℕ) (old new : ℕ) → new ≡ old + faults_at fault → IsSome fault → old < new
rises None old new counted some = absurd (false≢true some)
rises (Some place) old new counted some = omega (arith, counted)

pub is_pair : (o : Opening) (d d' : Desk) (p p' : BookState) (a : Act) (fault : Option ℕ) → IsPair o d p → IsAllowed o a → Did o d d' p p' a fault → IsPair o d' p'
is_pair o d d' p p' a fault h allowed did =
    let es = (act_of (state_of d p) a fault).journal in
    let cuts = medium_cuts-append p.journal es in
    record {
      single = h.single;
      state = did.state ∙ ap (λ (s : State). after_events s es) h.state ∙ sym (replay-append o p.journal es) ∙ ap (replay o) (sym did.journal);
      run = subst (IsRun o) (ap (λ (s : State). p.journal ++ (act_of s a fault).journal) (sym h.state) ∙ sym did.journal) (run_more o p.journal a fault allowed h.run);
      agrees = did.agrees;
      room = did.room;
      cuts = rw did.journal (omega (arith, cuts, did.cuts, did.counted, h.cuts));
    }

pub acted : (o : Opening) (d d' : Desk) (p p' : BookState) (a : Act) (fault : Option ℕ) (said : Answer) → IsPair o d p → Did o d d' p p' a fault → said ≡ (act_of (state_of d p) a fault).answer
    → Acts (record { opening = o; desk = d; book = p }) (record { opening = o; desk = d'; book = p' }) a said
acted o d d' p p' a fault said h did answered = record {
  fault = fault;
  journal = did.journal ∙ ap (λ (s : State). p.journal ++ (act_of s a fault).journal) h.state;
  answer = answered ∙ ap (λ (s : State). (act_of s a fault).answer) h.state;
  opening = refl;
  cause = rises fault d.faults d'.faults did.counted;
  later = omega (arith, did.counted);
  counted = did.counted;
}

-- what a call of the unit does

did_by : (o : Opening) (d d' : Desk) (p p' : BookState) (a : Act) (said : Answer) → IsPair o d p → (x : Does d d' p p' (doing (state_of d p) a) said) → Did o d d' p p' a x.fault
unfolding act_of
did_by o d d' p p' a said h x = record {
  journal = x.journal;
  state = x.state;
  agrees = x.agrees;
  room = let old = h.room in let fell = x.room in let spent = x.spare in omega (arith, old, fell, spent);
  cuts = x.cuts;
  counted = x.counted;
}

answered_by : (d d' : Desk) (p p' : BookState) (a : Act) (said : Answer) → (x : Does d d' p p' (doing (state_of d p) a) said) → said ≡ (act_of (state_of d p) a x.fault).answer
unfolding act_of
answered_by d d' p p' a said x = x.answer

-- a step, and what comes next

pub did_step : (o : Opening) (d d' : Desk) (p p' : BookState) (number count : ℕ) (said : Answer) → IsPair o d p
    → (x : Does d d' p p' (λ fault. stepping (task_of number (state_of d p).tasks) number count fault (state_of d p)) said) → Did o d d' p p' (act.Step number count) x.fault
did_step o d d' p p' number count said h x = did_by o d d' p p' (act.Step number count) said h x

pub acted_step : (o : Opening) (d d' : Desk) (p p' : BookState) (number count : ℕ) (said : Answer) → IsPair o d p
    → Does d d' p p' (λ fault. stepping (task_of number (state_of d p).tasks) number count fault (state_of d p)) said
    → Acts (record { opening = o; desk = d; book = p }) (record { opening = o; desk = d'; book = p' }) (act.Step number count) said
acted_step o d d' p p' number count said h x =
    acted o d d' p p' (act.Step number count) x.fault said h (did_step o d d' p p' number count said h x) (answered_by d d' p p' (act.Step number count) said x)

-- the works are those that had come before
pub works_step : (d d' : Desk) (p p' : BookState) (number count : ℕ) (said : Answer) → Does d d' p p' (λ fault. stepping (task_of number (state_of d p).tasks) number count fault (state_of d p)) said
    → (state_of d p).arrivals ≡ map at_a p'.works
works_step d d' p p' number count said x =
    sym (ap (λ (s : State). s.arrivals) x.state ∙ arrivals_stay (state_of d p) (stepping (task_of number (state_of d p).tasks) number count x.fault (state_of d p)).turn.journal (steps (task_of number (state_of d p).tasks) number count x.fault (state_of d p)))

pub works_next : (d d' : Desk) (p p' : BookState) (count : ℕ) (said : Answer) → Does d d' p p' (λ fault. stepping_next (next_step (state_of d p)) count fault (state_of d p)) said
    → (state_of d p).arrivals ≡ map at_a p'.works
works_next d d' p p' count said x =
    sym (ap (λ (s : State). s.arrivals) x.state ∙ arrivals_stay (state_of d p) (stepping_next (next_step (state_of d p)) count x.fault (state_of d p)).turn.journal (steps_next (next_step (state_of d p)) count x.fault (state_of d p)))

pub did_next : (o : Opening) (d d' : Desk) (p p' : BookState) (count : ℕ) (said : Answer) → IsPair o d p
    → (x : Does d d' p p' (λ fault. stepping_next (next_step (state_of d p)) count fault (state_of d p)) said) → Did o d d' p p' (act.Next count) x.fault
did_next o d d' p p' count said h x = did_by o d d' p p' (act.Next count) said h x

pub acted_next : (o : Opening) (d d' : Desk) (p p' : BookState) (count : ℕ) (said : Answer) → IsPair o d p
    → Does d d' p p' (λ fault. stepping_next (next_step (state_of d p)) count fault (state_of d p)) said
    → Acts (record { opening = o; desk = d; book = p }) (record { opening = o; desk = d'; book = p' }) (act.Next count) said
acted_next o d d' p p' count said h x =
    acted o d d' p p' (act.Next count) x.fault said h (did_next o d d' p p' count said h x) (answered_by d d' p p' (act.Next count) said x)

-- nothing was done

pub acted_nothing : (o : Opening) (d : Desk) (p : BookState) (a : Act) (said : Answer) → IsPair o d p → act_of (state_of d p) a None ≡ record { journal = []; answer = said }
    → Acts (record { opening = o; desk = d; book = p }) (record { opening = o; desk = d; book = p }) a said
acted_nothing o d p a said h e = record {
  fault = None;
  journal = sym (append-nil p.journal) ∙ ap (λ (j : List Logged). p.journal ++ j) (sym (ap (λ (w : Written). w.journal) e)) ∙ ap (λ (s : State). p.journal ++ (act_of s a None).journal) h.state;
  answer = sym (ap (λ (w : Written). w.answer) e) ∙ ap (λ (s : State). (act_of s a None).answer) h.state;
  opening = refl;
  cause = λ x. absurd (false≢true x);
  later = omega arith;
  counted = omega arith;
}

delivers_nothing : (d : Desk) (p : BookState) (node : Node) → act_of (state_of d p) (act.Deliver node) None ≡ record { journal = []; answer = answer.Nothing }
unfolding act_of
delivers_nothing d p A = refl
delivers_nothing d p B = refl

pub acted_deliver : (o : Opening) (d : Desk) (p : BookState) (node : Node) → IsPair o d p
    → Acts (record { opening = o; desk = d; book = p }) (record { opening = o; desk = d; book = p }) (act.Deliver node) answer.Nothing
acted_deliver o d p node h = acted_nothing o d p (act.Deliver node) answer.Nothing h (delivers_nothing d p node)

-- a work comes

pub did_come : (o : Opening) (d d' : Desk) (p p' : BookState) (node : Node) (came : KeptWork) (said : Answer) → IsAtNode o node → IsPair o d p
    → (x : Does d d' p p' (λ fault. arriving A came (state_of d p)) said) → Did o d d' p p' (act.Arrive node came) x.fault
did_come o d d' p p' A came said at h x = did_by o d d' p p' (act.Arrive A came) said h x
did_come o d d' p p' B came said at h x = absurd (at h.single)

pub acted_come : (o : Opening) (d d' : Desk) (p p' : BookState) (node : Node) (came : KeptWork) (said : Answer) → IsAtNode o node → IsPair o d p
    → Does d d' p p' (λ fault. arriving A came (state_of d p)) said
    → Acts (record { opening = o; desk = d; book = p }) (record { opening = o; desk = d'; book = p' }) (act.Arrive node came) said
acted_come o d d' p p' A came said at h x =
    acted o d d' p p' (act.Arrive A came) x.fault said h (did_come o d d' p p' A came said at h x) (answered_by d d' p p' (act.Arrive A came) said x)
acted_come o d d' p p' B came said at h x = absurd (at h.single)
