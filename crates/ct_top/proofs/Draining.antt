-- What is next is done until nothing can be done, and that ends.
use Rattle.std.proofs.Common.{◌≡◌, ℕ, ◌+◌, ◌-◌, ◌≤◌, ◌<◌, Bool, true, false, ◌||◌, cond, eq-eqb, List, [], ◌∷◌, ◌++◌, Option, Some, length, refl, sym, ap, ◌∙◌, arith, length-append, append-nil}
use Rattle.std.specs.Prelude.{◌≢◌}
use Rattle.ct_book.specs.declared.event.Logged.{Logged}
use Rattle.ct_book.specs.Kept.{events_for}
use Rattle.ct_machine.specs.declared.act.Act.TheVariants as act
use Rattle.ct_machine.specs.declared.act.Answer.{Answer}
use Rattle.ct_machine.specs.declared.act.Answer.TheVariants as answer
use Rattle.ct_machine.specs.declared.act.Opening.{Opening}
use Rattle.ct_machine.specs.Acts.{act_of}
use Rattle.ct_machine.specs.Runs.{replay}
use Rattle.ct_machine.specs.Laws.Live.{is_void, ActsWrite}
use Rattle.ct_pair.specs.Pairs.{PairState, Acts}
use Rattle.std.specs.Prelude.{is_some}
use Rattle.std.specs.List.{list_any}
use Rattle.ct_word.specs.declared.limit.TheConstants.{MOST_STEP}
use Rattle.ct_machine.specs.States.{Task, task_of}
use Rattle.ct_machine.specs.Acts.Steps.{is_sent}
use Rattle.ct_machine.specs.Laws.Live.{NeverStops}
use Rattle.ct_top.specs.Played.{Point, point_of, Acted, next, Drains, idle, more}

abbrev acted_by : (old new : PairState) (said : Answer) → Acts old new next said → Acted old.opening next (point_of old) (point_of new)
acted_by old new said h = record { fault = h.fault; counted = h.counted; written = h.journal }

pub drains_idle : (old new : PairState) (said : Answer) → Acts old new next said → said ≡ answer.Idle →
    ((count : ℕ) (fault : Option ℕ) → (act_of (replay old.opening old.book.journal) (act.Next count) fault).answer ≡ answer.Idle → (act_of (replay old.opening old.book.journal) (act.Next count) fault).journal ≡ []) →
    Drains old.opening (point_of old) (point_of new)
drains_idle old new said h e silent =
    let idles : (act_of (replay old.opening old.book.journal) next h.fault).answer ≡ answer.Idle = sym h.answer ∙ e in
    let same : new.book.journal ≡ old.book.journal =
    h.journal ∙ ap (λ events. old.book.journal ++ events) (silent MOST_STEP h.fault idles)
    ∙ append-nil old.book.journal in
    idle (point_of old) (point_of new) (record { acted = acted_by old new said h; answer = idles; silent = same })

pub drains_more : (old new : PairState) (said : Answer) (end : Point) → Acts old new next said → Drains old.opening (point_of new) end → Drains old.opening (point_of old) end
drains_more old new said end h d = more (point_of old) (point_of new) end (acted_by old new said h) d

some_length : (es : List Logged) → es ≢ [] → 1 ≤ length es
some_length [] h = absurd (h refl)
some_length (e ∷ es) h = omega arith

pub drains_fewer : (old new : PairState) (said : Answer) → Acts old new next said → said ≢ answer.Idle →
    ((count : ℕ) (fault : Option ℕ) → is_void (act_of (replay old.opening old.book.journal) (act.Next count) fault).answer ≡ true → (act_of (replay old.opening old.book.journal) (act.Next count) fault).answer ≡ answer.Idle) →
    ActsWrite old.opening old.book.journal → length new.book.journal ≤ events_for new.opening.room →
    events_for new.opening.room - length new.book.journal < events_for old.opening.room - length old.book.journal
drains_fewer old new said h busy does writes within = go (is_void (act_of (replay old.opening old.book.journal) next h.fault).answer) refl
  where
    events : List Logged
    events = (act_of (replay old.opening old.book.journal) next h.fault).journal

    go : (t : Bool) → is_void (act_of (replay old.opening old.book.journal) next h.fault).answer ≡ t → events_for new.opening.room - length new.book.journal < events_for old.opening.room - length old.book.journal
    go true e = absurd (busy (h.answer ∙ does MOST_STEP h.fault e))
    go false e =
        let some = some_length events (writes next h.fault (omega arith) e) in
        let longer : length new.book.journal ≡ length old.book.journal + length events = ap length h.journal ∙ length-append old.book.journal events in
        let same : events_for new.opening.room ≡ events_for old.opening.room = ap (λ (o : Opening). events_for o.room) h.opening in
        omega (arith, some, longer, same, within)

-- at the end nothing can be done
pub idle_at : (o : Opening) (before after : Point) → Drains o before after → (fault : Option ℕ) × ((act_of (replay o after.journal) next fault).answer ≡ answer.Idle)
idle_at o before after (idle b e h) = (h.acted.fault, ap (λ j. (act_of (replay o j) next h.acted.fault).answer) h.silent ∙ h.answer)
idle_at o before after (more b between e h d) = idle_at o between e d
