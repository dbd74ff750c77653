-- A command begins, and moves.
use Rattle.std.proofs.Common.{◌≡◌, ℕ, ◌⊎◌, inl, inr, Bool, true, false, not, List, [], ◌∷◌, ◌++◌, Some, None, length}
use Rattle.std.proofs.Common.{refl, sym, ap, ◌∙◌, subst, ⊎_elim, arith, nat_eq, eq-eqb, ne_eqb, cond, take, drop}
use Rattle.std.proofs.lemmas.Option.{same_Some}
use Rattle.std.proofs.lemmas.Bool.{both_ways, or_left, or_right, or_from}
use Rattle.ct_book.specs.declared.work.Command.{Command}
use Rattle.ct_book.specs.declared.work.Work.TheVariants as work
use Rattle.ct_book.specs.declared.event.Event.{Event}
use Rattle.ct_book.specs.declared.event.Event.TheVariants as event
use Rattle.ct_book.specs.declared.event.Logged.{Logged}
use Rattle.ct_book.specs.Journals.{numbered}
use Rattle.ct_book.specs.Histories.{cut_at}
use Rattle.ct_exec.specs.Controls.{Disk, is_unrestricted}
use Rattle.ct_machine.specs.declared.act.Opening.{Opening}
use Rattle.ct_machine.specs.States.{Task, Stage, Waiting, Open, Arrival, State, is_waiting, done_at, with_task}
use Rattle.ct_machine.specs.States.{at_stage}
use Rattle.ct_machine.specs.Serial.{serial_disk}
use Rattle.ct_machine.specs.Laws.Journals.{has, is_entry, is_begin, is_enter, made_at}
use Rattle.ct_machine.specs.Laws.Legal.{IsRestricted}
use Rattle.ct_machine.specs.Laws.Cells.{Beside, beside}
use Rattle.ct_law.proofs.Lists.Tasks.{Has, has_with}
use Rattle.ct_law.proofs.Cells.Held.{Holds, is_active}
use Rattle.ct_law.proofs.Journals.Journal.{each_more, has_same, IsOf}
use Rattle.ct_law.proofs.Journals.Growing.{works_in-none, beside-more}
use Rattle.ct_law.proofs.Lists.Messages.{IsStop}
use Rattle.ct_law.proofs.Frame.Books.{is_over, arrival_for, books_turns}
use Rattle.ct_law.proofs.Frame.Orders.{orders_event, orders_turns}
use Rattle.ct_law.proofs.Frame.Opens.{HasOpen, is_at_b, opens_event}
use Rattle.ct_law.proofs.Inv.{LawfulAt, Frame, Gained, Inv, Others, got_at, told, is_move, is_done, known_in}
use Rattle.ct_law.proofs.Inv.{serial-same, cells_event}
use Rattle.ct_plan.specs.Cells.{Progress, performed}
use Rattle.ct_exec.specs.Executions.{refusal_of, plan_in}
use Rattle.ct_machine.specs.Events.Moves.{further}
use Rattle.ct_machine.specs.Laws.Orderly.{IsBehindAll}
use Rattle.ct_machine.specs.Laws.Journals.{IsCommandOf, work_in}
use Rattle.ct_machine.specs.Laws.Cells.{moved_beside, kept_if}
use Rattle.ct_law.proofs.Rows.Laws.{Laws, has_operations}
use Rattle.ct_law.proofs.Cells.Blocks.{perform_alike}
use Rattle.ct_law.proofs.Rows.Ready.{IsReady}
use Rattle.ct_law.proofs.Cells.Execs.{made_again, then_size}
use Rattle.ct_law.proofs.Cells.Ends.{first_stage, begins_rules, begins_held, IsAt, at_active, at_done, at_further}
use Rattle.ct_law.proofs.Cells.Ends.{moved_rules, moved_held, comes_on, comes_to, moved_state}
use Rattle.ct_law.proofs.Inv.{in_order}
use Rattle.ct_law.proofs.Events.Steps.{rules_same, holds_same}
use Rattle.ct_law.proofs.Events.Entries.{Own, opens_turns}

-- Begins

abbrev pub first_event : Bool → ℕ → Event
first_event true n = event.Granted n
first_event false n = event.Begun n

-- an event of the command alone
pub own_alone : (P : ℕ → ℕ → Type 0) (o : Opening) (s : State) (journal : List Logged) (x : Task) (e : Event) →
    Frame P o s journal → Has s.tasks x → ((n : ℕ) → is_enter n e ≡ false) → ((n : ℕ) → IsOf e n → x.no ≡ n) → Own s x e
own_alone P o s journal x e h hx enters only = record {
  enters = enters;
  mine = λ n i. inl (only n i);
  old = λ n k i. both_ways (has (is_enter n) journal) (h.books.fresh n k).enter
      (subst (λ m. has (is_enter m) journal ≡ true) (only n i) (h.books.entered x hx));
}

-- a command that has begun isn't over
pub begun_at : (stage : Stage) (d : ℕ) (g : List ℕ) → IsAt stage d g →
    (is_over stage ≡ false) × (is_waiting stage ≡ false) × (got_at stage ≡ g)
begun_at stage d g (inl k) = (ap is_over k, ap is_waiting k, ap got_at k)
begun_at stage d g (inr k) = (ap is_over k, ap is_waiting k, ap got_at k)

-- the number of a command is that of no open function
pub not_open : (P : ℕ → ℕ → Type 0) (o : Opening) (s : State) (journal : List Logged) (x : Task) → Frame P o s journal →
    Has s.tasks x → (p : Open) → HasOpen s.functions p → x.no ≡ p.no → ⊥
not_open P o s journal x h hx p hp e =
    let a = h.opens.asked p hp in
    let k : Some (arrival_for x) ≡ Some (record { node = a.node; work = work.Ask p.ask }) =
    sym (h.books.known x hx) ∙ ap (λ n. numbered n s.arrivals) e ∙ a.came in
    let w : work.Cmd x.command ≡ work.Ask p.ask = ap (λ (z : Arrival). z.work) (same_Some _ _ k) in
    cc

-- a waiting command takes its first stage
pub begun_so : (P : ℕ → ℕ → Type 0) (laws : Laws) (o : Opening) (s : State) (journal : List Logged) (x : Task)
    (t : Bool) → ((f n : ℕ) → P f n → ⊥) → Inv P o s journal → Has s.tasks x → x.stage ≡ Waiting →
    IsReady o.blocks (is_unrestricted s.control) x s.tasks → s.functions ≡ [] →
    refusal_of s.control o.blocks x.command ≡ None → has_operations (plan_in o.blocks x.command) ≡ true →
    Inv P o (record s { tasks = with_task (at_stage (first_stage t) x) s.tasks })
    (journal ++ told (first_event t x.no) ∷ [])
begun_so P laws o s journal x t idle h hx st ready none allowed moves = record {
  frame = record {
    each = each_more (LawfulAt o) [] journal e h.frame.each (lawful t (in_order P laws o s journal x h hx st ready));
    works = h.frame.works ∙ sym (works_in-none journal e refl);
    size = h.frame.size;
    books = books_turns journal s.arrivals s.tasks s.to_a x (first_stage t) e h.frame.books hx (record {
      entry = or_from _ _ unended (entry t) ∙ sym (over t);
      begin = λ k. or_right (has (is_begin x.no) journal) _ (begin t) ∙ sym (ap not (waits t));
      made = λ k. let a = h.frame.books.made x hx (ap is_over st) in let b = ap done_at st in let c = count t in
          let d = done t in omega (arith, a, b, c, d);
      enters = enters t;
    }) own.mine own.old;
    orders =
        orders_turns (journal ++ e ∷ []) s.tasks x (first_stage t) hx (waits t)
        (orders_event journal s.tasks e (enters t) h.frame.orders);
    opens = opens_turns P (journal ++ e ∷ []) s.arrivals s.tasks s.functions s.to_a s.to_b x (first_stage t) hx
        (λ a. inr (record { closed = none; unsent = λ f k. unsent f k }))
        (opens_event P journal s.arrivals s.tasks s.functions s.to_a s.to_b e (λ p hp. alone t p) h.frame.opens);
  };
  rules = rules_same o journal e s.control (with_task (at_stage (first_stage t) x) s.tasks)
      (serial-same o journal e (still t))
      (begins_rules o.blocks (serial_disk o journal) s.control s.tasks x t h.rules hx allowed moves);
  cells = cells_event o s (record s { tasks = with_task (at_stage (first_stage t) x) s.tasks }) journal e
      (unmoved t) refl h.cells.blocks
      (λ y m k. ⊎_elim
      (λ (w : at_stage (first_stage t) x ≡ y).
      subst (λ (z : Task). Gained (beside o z.no journal) None (got_at z.stage)) w
      (subst (λ g. Gained (beside o x.no journal) None g) (ap got_at st ∙ sym (gained t))
      (h.cells.gained x hx (ap is_over st))))
      (λ (w : Has s.tasks y × (y.no ≡ x.no → ⊥)). h.cells.gained y w.0 k)
      (has_with (at_stage (first_stage t) x) s.tasks y m))
      (λ m k. h.cells.ungained m (sym (has_same (is_enter m) journal e (enters t m)) ∙ k));
  holds = holds_same o journal e s.blocks (with_task (at_stage (first_stage t) x) s.tasks)
      (serial-same o journal e (still t))
      (λ r. begins_held laws o.blocks (serial_disk o journal) s.blocks s.tasks x t (h.holds r) h.rules.single hx st
      (subst (λ b. IsReady o.blocks b x s.tasks) (restricted_now r) ready));
}
  where
    e : Logged
    e = told (first_event t x.no)

    unended : has (is_entry x.no) journal ≡ false
    unended = h.frame.books.entry x hx ∙ ap is_over st

    unbegun : has (is_begin x.no) journal ≡ false
    unbegun = h.frame.books.begin x hx (ap is_over st) ∙ ap (λ z. not (is_waiting z)) st

    unsent : (f : ℕ) → IsStop x.no f s.to_b → ⊥
    unsent f k = ⊎_elim
        (λ (b : has (is_begin x.no) journal ≡ true). both_ways _ unbegun b)
        (λ (b : (has (is_entry x.no) journal ≡ true) ⊎ P f x.no). ⊎_elim
        (λ (c : has (is_entry x.no) journal ≡ true). both_ways _ unended c) (λ (c : P f x.no). idle f x.no c) b)
        (h.frame.opens.begun x.no f k)

    restricted_now : IsRestricted o journal → is_unrestricted s.control ≡ false
    restricted_now r = ap is_unrestricted h.rules.control ∙ r.last

    waits : (t : Bool) → is_waiting (first_stage t) ≡ false
    waits true = refl
    waits false = refl

    over : (t : Bool) → is_over (first_stage t) ≡ false
    over true = refl
    over false = refl

    done : (t : Bool) → done_at (first_stage t) ≡ 0
    done true = refl
    done false = refl

    gained : (t : Bool) → got_at (first_stage t) ≡ []
    gained true = refl
    gained false = refl

    entry : (t : Bool) → is_entry x.no (first_event t x.no) ≡ false
    entry true = refl
    entry false = refl

    begin : (t : Bool) → is_begin x.no (first_event t x.no) ≡ true
    begin true = eq-eqb x.no x.no refl
    begin false = eq-eqb x.no x.no refl

    count : (t : Bool) → made_at x.no (first_event t x.no) ≡ 0
    count true = refl
    count false = refl

    enters : (t : Bool) (n : ℕ) → is_enter n (first_event t x.no) ≡ false
    enters true n = refl
    enters false n = refl

    still : (t : Bool) → is_done (first_event t x.no) ≡ false
    still true = refl
    still false = refl

    unmoved : (t : Bool) → is_move (first_event t x.no) ≡ false
    unmoved true = refl
    unmoved false = refl

    only : (t : Bool) (n : ℕ) → IsOf (first_event t x.no) n → x.no ≡ n
    only true n i = i
    only false n i = i

    own : Own s x (first_event t x.no)
    own = own_alone P o s journal x (first_event t x.no) h.frame hx (enters t) (only t)

    alone : (t : Bool) (p : Open) → (is_entry p.no (first_event t x.no) ≡ false)
        × (cut_at p.no (first_event t x.no) ≡ [])
    alone true p = (refl, refl)
    alone false p = (refl, refl)

    known : IsCommandOf journal x.no x.command
    known = known_in P o s journal x h.frame hx

    lawful : (t : Bool) → IsBehindAll o journal x.no → LawfulAt o journal (told (first_event t x.no))
    lawful true b = record {
      once = λ m k. absurd
          (cc);
      typed = record { work = (x.command, known); by = tt; closed = tt };
      orderly = λ none. b;
      reorders = λ a entered began left. refl;
      plan = tt;
      prefix = tt;
      cells = tt;
      sound = tt;
      legal = λ r. tt;
    }
    lawful false b = record {
      once = λ m k. absurd
          (cc);
      typed = record { work = (x.command, known); by = tt; closed = tt };
      orderly = λ none. b;
      reorders = λ a entered began left. refl;
      plan = tt;
      prefix = tt;
      cells = tt;
      sound = tt;
      legal = λ r. tt;
    }

-- Moves

-- what holds behind operations that a command made: what holds of all but it, and what it got and found
pub record Moved (P : ℕ → ℕ → Type 0) (o : Opening) (s : State) (journal : List Logged) (x : Task)
    (p : Progress) : Type 0 where
  pub others : Others P o s journal x.no
  pub gained : Gained (beside o x.no journal) p.difference p.cells.got

abbrev pub moved_event : State → Task → ℕ → ℕ → List ℕ → Logged
moved_event s x count done got = told (event.Moved x.no (comes_on s x count done got).made)

pub moves_so : (P : ℕ → ℕ → Type 0) (o : Opening) (s : State) (journal : List Logged) (x : Task) (count done : ℕ)
    (got : List ℕ) → Inv P o s journal → Has s.tasks x → IsAt x.stage done got →
    Moved P o (moved_state s x (comes_to s x count done got)) (journal ++ moved_event s x count done got ∷ []) x
    (comes_to s x count done got)
moves_so P o s journal x count done got h hx at = record {
  others = record {
    frame = record {
      each = each_more (LawfulAt o) [] journal e h.frame.each (record {
        once = λ m k. absurd (cc);
        typed = record { work = (c, known_in P o s journal x h.frame hx); by = tt; closed = tt };
        orderly = tt;
        reorders = λ a entered began left. refl;
        plan = (h.cells.gained x hx alive).difference;
        prefix = unended;
        cells = tt;
        sound = tt;
        legal = λ r. tt;
      });
      works = h.frame.works ∙ sym (works_in-none journal e refl);
      size = then_size n s.blocks c count done got ∙ h.frame.size;
      books = books_turns journal s.arrivals s.tasks s.to_a x stage e h.frame.books hx (record {
        entry = or_from _ _ unended refl ∙ sym alive';
        begin = λ k. or_left _ _ (h.frame.books.begin x hx alive ∙ ap not waits) ∙ sym (ap not waits');
        made = λ k.
            let a = h.frame.books.made x hx alive in
            let b = ap (λ t. cond t made 0) (eq-eqb x.no x.no refl) in
            let was = at_done x.stage done got at in
            let is = at_done stage p.made p.cells.got at' in
            omega (arith, a, b, was, is);
        enters = λ m. refl;
      }) own.mine own.old;
      orders = orders_turns (journal ++ e ∷ []) s.tasks x stage hx waits'
          (orders_event journal s.tasks e (λ m. refl) h.frame.orders);
      opens = opens_turns P (journal ++ e ∷ []) s.arrivals s.tasks s.functions s.to_a s.to_b x stage hx
          (λ a. inl (record {
            task = x;
            has = hx;
            no = refl;
            command = refl;
            active = active;
            remote = remote x.stage at;
          }))
          (opens_event P journal s.arrivals s.tasks s.functions s.to_a s.to_b e (λ q hq. (refl, refl)) h.frame.opens);
    };
    rules = rules_same o journal e s.control (with_task (at_stage stage x) s.tasks) (serial-same o journal e refl)
        (moved_rules o.blocks (serial_disk o journal) s.control s.tasks x stage h.rules hx active);
    blocks = λ m. sym (
        ap (λ (b : Beside). b.blocks) (now m)
        ∙ kept_blocks (nat_eq x.no m) (moves_beside m) (beside o m journal)
        ∙ same_blocks m);
    gained = λ y hy other k. ⊎_elim
        (λ (w : at_stage stage x ≡ y). absurd (other (ap (λ (z : Task). z.no) (sym w))))
        (λ (w : Has s.tasks y × (y.no ≡ x.no → ⊥)).
        stays y.no (got_at y.stage) (λ i. w.1 (sym i)) (h.cells.gained y w.0 k))
        (has_with (at_stage stage x) s.tasks y hy);
    ungained = λ m k.
        let old : has (is_enter m) journal ≡ false = sym (has_same (is_enter m) journal e refl) ∙ k in
        let other : x.no ≡ m → ⊥ = λ i. both_ways (has (is_enter m) journal) old
        (subst (λ j. has (is_enter j) journal ≡ true) i (h.frame.books.entered x hx)) in
        stays m [] other (h.cells.ungained m old);
  };
  gained = mine;
}
  where
    n : ℕ
    n = length s.blocks

    c : Command
    c = x.command

    p : Progress
    p = comes_to s x count done got

    made : ℕ
    made = (comes_on s x count done got).made

    e : Logged
    e = moved_event s x count done got

    stage : Stage
    stage = further x.stage p.made p.cells.got

    at' : IsAt stage p.made p.cells.got
    at' = at_further x.stage done got p.made p.cells.got at

    active : is_active x.stage ≡ true
    active = at_active x.stage done got at

    begun : (is_over x.stage ≡ false) × (is_waiting x.stage ≡ false) × (got_at x.stage ≡ got)
    begun = begun_at x.stage done got at

    begun' : (is_over stage ≡ false) × (is_waiting stage ≡ false) × (got_at stage ≡ p.cells.got)
    begun' = begun_at stage p.made p.cells.got at'

    alive : is_over x.stage ≡ false
    alive = begun.0

    waits : is_waiting x.stage ≡ false
    waits = begun.1

    alive' : is_over stage ≡ false
    alive' = begun'.0

    waits' : is_waiting stage ≡ false
    waits' = begun'.1

    remote : (st : Stage) → IsAt st done got → is_at_b (further st p.made p.cells.got) ≡ true → is_at_b st ≡ true
    remote st (inl k) r = absurd (both_ways _ (ap (λ z. is_at_b (further z p.made p.cells.got)) k) r)
    remote st (inr k) r = ap is_at_b k

    unended : has (is_entry x.no) journal ≡ false
    unended = h.frame.books.entry x hx ∙ alive

    own : Own s x e.event
    own = own_alone P o s journal x e.event h.frame hx (λ m. refl) (λ m i. i)

    -- the operations on other blocks, and on the cells
    at_blocks : (blocks : List (List ℕ)) (g : List ℕ) → Progress
    at_blocks blocks g =
        performed c.out (take made (drop done (plan_in (length blocks) c))) (record { blocks = blocks; got = g })

    moves_beside : ℕ → Progress
    moves_beside m = at_blocks (beside o m journal).blocks (beside o m journal).got

    now : (m : ℕ) → beside o m (journal ++ e ∷ []) ≡ kept_if (nat_eq x.no m) (moves_beside m) (beside o m journal)
    now m =
        beside-more o m journal e
        ∙ ap (λ d. moved_beside m x.no d made (work_in x.no journal) (beside o m journal))
        (h.frame.books.made x hx alive ∙ at_done x.stage done got at)
        ∙ ap (λ w. moved_beside m x.no done made w (beside o m journal)) (known_in P o s journal x h.frame hx)

    kept_blocks : (t : Bool) (q : Progress) (b : Beside) → (kept_if t q b).blocks ≡ q.cells.blocks
    kept_blocks true q b = refl
    kept_blocks false q b = refl

    again : at_blocks s.blocks got ≡ comes_on s x count done got
    again = made_again c.out count (drop done (plan_in n c)) (record { blocks = s.blocks; got = got })

    same_blocks : (m : ℕ) → (moves_beside m).cells.blocks ≡ p.cells.blocks
    same_blocks m =
        let theirs : List ℕ = (beside o m journal).got in
        ap (λ blocks. (at_blocks blocks theirs).cells.blocks) (sym (h.cells.blocks m))
        ∙ perform_alike c.out (take made (drop done (plan_in n c)))
        (record { blocks = s.blocks; got = theirs }) (record { blocks = s.blocks; got = got }) refl
        ∙ ap (λ (q : Progress). q.cells.blocks) again

    mine : Gained (beside o x.no (journal ++ e ∷ [])) p.difference p.cells.got
    mine =
        let b : Beside = beside o x.no journal in
        let g : Gained b None (got_at x.stage) = h.cells.gained x hx alive in
        let q : Progress = moves_beside x.no in
        let is : beside o x.no (journal ++ e ∷ []) ≡ kept_if true q b =
        now x.no ∙ ap (λ t. kept_if t q b) (eq-eqb x.no x.no refl) in
        let same : q ≡ comes_on s x count done got =
        ap (λ blocks. at_blocks blocks b.got) (sym (h.cells.blocks x.no))
        ∙ ap (at_blocks s.blocks) (g.got ∙ begun.2) ∙ again in
        record {
          got = ap (λ (k : Beside). k.got) is ∙ ap (λ (r : Progress). r.cells.got) same;
          difference = ap (λ (k : Beside). k.difference) is ∙ ap (λ (r : Progress). r.difference) same;
        }

    stays : (m : ℕ) (g : List ℕ) → (x.no ≡ m → ⊥) →
        Gained (beside o m journal) None g → Gained (beside o m (journal ++ e ∷ [])) None g
    stays m g ne k =
        let is : beside o m (journal ++ e ∷ []) ≡ kept_if false (moves_beside m) (beside o m journal) =
        now m ∙ ap (λ t. kept_if t (moves_beside m) (beside o m journal)) (ne_eqb x.no m ne) in
        record {
          got = ap (λ (z : Beside). z.got) is ∙ k.got;
          difference = ap (λ (z : Beside). z.difference) is ∙ k.difference;
        }

-- where it found no difference it goes on
pub moved_so : (P : ℕ → ℕ → Type 0) (o : Opening) (s : State) (journal : List Logged) (x : Task) (count done : ℕ)
    (got : List ℕ) → Inv P o s journal → Has s.tasks x → IsAt x.stage done got →
    (comes_to s x count done got).difference ≡ None →
    Inv P o (moved_state s x (comes_to s x count done got)) (journal ++ moved_event s x count done got ∷ [])
moved_so P o s journal x count done got h hx at none = record {
  frame = moved.others.frame;
  rules = moved.others.rules;
  cells = record {
    blocks = moved.others.blocks;
    gained = λ y hy k. ⊎_elim
        (λ (w : at_stage stage x ≡ y).
        subst (λ (z : Task). Gained (beside o z.no (journal ++ e ∷ [])) None (got_at z.stage)) w mine)
        (λ (w : Has s.tasks y × (y.no ≡ x.no → ⊥)). moved.others.gained y hy w.1 k)
        (has_with (at_stage stage x) s.tasks y hy);
    ungained = moved.others.ungained;
  };
  holds = holds_same o journal e p.cells.blocks (with_task (at_stage stage x) s.tasks) (serial-same o journal e refl)
      (λ r. subst (λ k. Holds k d p.cells.blocks (with_task (at_stage stage x) s.tasks)) h.frame.size
      (moved_held n d s.blocks s.tasks x count done got
      (subst (λ k. Holds k d s.blocks s.tasks) (sym h.frame.size) (h.holds r)) h.rules.single hx at none));
}
  where
    n : ℕ
    n = length s.blocks

    d : Disk
    d = serial_disk o journal

    p : Progress
    p = comes_to s x count done got

    e : Logged
    e = moved_event s x count done got

    stage : Stage
    stage = further x.stage p.made p.cells.got

    moved : Moved P o (moved_state s x p) (journal ++ e ∷ []) x p
    moved = moves_so P o s journal x count done got h hx at

    got_now : got_at stage ≡ p.cells.got
    got_now = (begun_at stage p.made p.cells.got (at_further x.stage done got p.made p.cells.got at)).2

    mine : Gained (beside o x.no (journal ++ e ∷ [])) None (got_at stage)
    mine = record { got = moved.gained.got ∙ sym got_now; difference = moved.gained.difference ∙ none }
