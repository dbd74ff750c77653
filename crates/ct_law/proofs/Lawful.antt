-- Every run is lawful.
use Rattle.std.proofs.Common.{◌≡◌, ℕ, zero, suc, inl, inr, Bool, true, false, List, [], ◌∷◌, ◌++◌, Some, map, refl, ap}
use Rattle.std.proofs.Common.{◌∙◌, subst}
use Rattle.std.specs.Prelude.{is_some, slice_get}
use Rattle.ct_book.specs.declared.work.Work.TheVariants as work
use Rattle.ct_book.specs.declared.event.Logged.{Logged}
use Rattle.ct_book.specs.Journals.{KeptWork, numbered}
use Rattle.ct_exec.specs.Controls.{is_unrestricted}
use Rattle.ct_machine.specs.declared.act.Opening.{Opening}
use Rattle.ct_machine.specs.States.{Arrival, State}
use Rattle.ct_machine.specs.Serial.{serial_disk}
use Rattle.ct_machine.specs.Runs.{replay, IsRun}
use Rattle.ct_machine.specs.Laws.Journals.{EachBehind, Each, has, is_entry, is_enter, work_in}
use Rattle.ct_machine.specs.Laws.Once.{IsQuiet}
use Rattle.ct_machine.specs.Laws.Standings.{standings_of}
use Rattle.ct_machine.specs.Laws.Legal.{IsLegalAt}
use Rattle.ct_machine.specs.Laws.{IsLawful}
use Rattle.ct_law.proofs.Lists.Tasks.{Has}
use Rattle.ct_law.proofs.Journals.Journal.{each_more}
use Rattle.ct_law.proofs.Cells.Held.{idle_same}
use Rattle.ct_law.proofs.Rows.Commands.{laws}
use Rattle.ct_law.proofs.Inv.{LawfulAt}
use Rattle.ct_law.proofs.Frame.Books.{IsAsk}
use Rattle.ct_law.proofs.Walks.Walk.{Now, NoneDue}
use Rattle.ct_law.proofs.Walks.Comings.{every_run}
use Rattle.ct_law.proofs.Acts.Busy.{next_is_busy, idle_is_quiet}
use Rattle.ct_law.proofs.Endings.{ends_good}
use Rattle.ct_law.proofs.Functions.Heard.{HeardAt, heard_runs}
use Rattle.ct_law.proofs.Acts.Complete.{IsOpenNo, IsGiven, given_run}

each_map : (P R : List Logged → Logged → Type 0) → ((before : List Logged) (l : Logged) → P before l → R before l) →
    (before journal : List Logged) → EachBehind P before journal → EachBehind R before journal
each_map P R f before [] h = tt
each_map P R f before (l ∷ journal) h = (f before l h.0, each_map P R f (before ++ l ∷ []) journal h.1)

-- where the modifier says restricted all along, it did at each event
legal_behind : (o : Opening) (before journal : List Logged) →
    Each (λ b l. is_unrestricted (serial_disk o b).control ≡ false) before →
    EachBehind (λ b l. is_unrestricted (serial_disk o b).control ≡ false) before journal →
    EachBehind (LawfulAt o) before journal →
    EachBehind (λ b l. IsLegalAt (standings_of o) o b l.event l.reply) before journal
legal_behind o before [] r rs h = tt
legal_behind o before (l ∷ journal) r rs h = (
  h.0.legal (record { each = r; last = rs.0 }),
  legal_behind o (before ++ l ∷ []) journal
      (each_more (λ b l. is_unrestricted (serial_disk o b).control ≡ false) [] before l r rs.0) rs.1 h.1,
)

-- Where all is quiet, each work has its entry

map_back : (n : ℕ) (xs : List Arrival) → is_some (numbered n (map (λ (a : Arrival). a.work) xs)) ≡ true →
    (a : Arrival) × (numbered n xs ≡ Some a)
map_back zero xs h = absurd (cc)
map_back (suc n) xs h = go n xs h
  where
    go : (k : ℕ) (ys : List Arrival) → is_some (slice_get (map (λ (a : Arrival). a.work) ys) k) ≡ true →
        (a : Arrival) × (slice_get ys k ≡ Some a)
    go k [] h = absurd (cc)
    go zero (y ∷ ys) h = (y, refl)
    go (suc k) (y ∷ ys) h = go k ys h

over_when_quiet : (o : Opening) (journal : List Logged) → IsRun o journal → IsQuiet (replay o journal) → (n : ℕ) →
    is_some (work_in n journal) ≡ true → has (is_entry n) journal ≡ true
over_when_quiet o journal run quiet n given =
    let back = map_back n s.arrivals (ap (λ ws. is_some (numbered n ws)) now.inv.frame.works ∙ given) in
    by back.0.work (given_run o journal run n back.0 back.1)
  where
    s : State
    s = replay o journal

    now : Now NoneDue o s journal
    now = every_run laws o journal run

    entered : has (is_enter n) journal ≡ true → (t : Bool) → has (is_entry n) journal ≡ t →
        has (is_entry n) journal ≡ true
    entered e true k = k
    entered e false k =
        let live = now.inv.frame.books.live n e k in absurd (subst (λ q. Has q live.0) quiet.tasks live.1)

    on_its_way : IsAsk n s.to_a → has (is_entry n) journal ≡ true
    on_its_way k = absurd (subst (λ q. IsAsk n q) quiet.to_a k)

    by : (w : KeptWork) → IsGiven n w s journal → has (is_entry n) journal ≡ true
    by (work.Cmd c) (inl k) = entered k (has (is_entry n) journal) refl
    by (work.Cmd c) (inr (inl k)) = k
    by (work.Cmd c) (inr (inr k)) = on_its_way k
    by (work.Ask ask) (inl k) = absurd (subst (λ q. IsOpenNo n q) quiet.functions k)
    by (work.Ask ask) (inr (inl k)) = k
    by (work.Ask ask) (inr (inr k)) = on_its_way k

pub lawful : (o : Opening) (journal : List Logged) → IsRun o journal → IsLawful o journal
lawful o journal run = record {
  legal = λ r. legal_behind o [] journal tt r.each each;
  sound = each_map (LawfulAt o) _ (λ before l h. h.sound) [] journal each;
  once = record {
    at_most = each_map (LawfulAt o) _
        (λ before l h. h.once) [] journal each;
    all = over_when_quiet o journal run;
  };
  typed = each_map (LawfulAt o) _ (λ before l h. h.typed) [] journal each;
  orderly = each_map (LawfulAt o) _ (λ before l h. h.orderly) [] journal each;
  reorders = each_map (LawfulAt o) _ (λ before l h. h.reorders) [] journal each;
  plans = each_map (LawfulAt o) _ (λ before l h. h.plan) [] journal each;
  prefix = each_map (LawfulAt o) _ (λ before l h. h.prefix) [] journal each;
  cells = record {
    replies = each_map (LawfulAt o) _
        (λ before l h. h.cells) [] journal each;
    blocks = now.inv.cells.blocks 0;
  };
  endings = each_map (LawfulAt o) _ (λ before l h. ends_good o before l.event l.reply h.cells) [] journal each;
  timely = record { each = now.schedule.timely; done = now.schedule.due };
  tells = each_map (HeardAt o) _ (λ before l h. h.tells) [] journal heard;
  answers = each_map (HeardAt o) _ (λ before l h. h.answers) [] journal heard;
  waits = each_map (HeardAt o) _ (λ before l h. h.waits) [] journal heard;
  closes = each_map (HeardAt o) _ (λ before l h. h.closes) [] journal heard;
  next = λ count fault void. next_is_busy o journal run count fault void;
  rest = λ count fault idle. let quiet = idle_is_quiet o journal run count fault idle in
      (quiet, over_when_quiet o journal run quiet);
  control = now.inv.rules.control;
  blocks = λ r none. idle_same o.blocks (serial_disk o journal) (replay o journal).blocks (replay o journal).tasks
      (now.inv.holds r) (λ x hx. absurd (subst (λ q. Has q x) none hx));
}
  where
    now : Now NoneDue o (replay o journal) journal
    now = every_run laws o journal run

    heard : Each (HeardAt o) journal
    heard = heard_runs laws o journal run

    each : Each (LawfulAt o) journal
    each = now.inv.frame.each
