-- A pair as it is opened.
use Rattle.std.proofs.Common.{◌≡◌, ℕ, ◌≤◌, List, [], replicate, length, refl, sym, ap, ◌∙◌, subst, arith}
use Rattle.std.specs.List.{All}
use Rattle.ct_word.specs.declared.limit.TheConstants.{MOST_BLOCKS}
use Rattle.ct_word.specs.declared.names.Ha.{Ha}
use Rattle.ct_word.specs.declared.names.Ha.TheVariants as ha
use Rattle.ct_book.specs.Journals.{BookState}
use Rattle.ct_book.specs.Kept.{empty_book}
use Rattle.ct_machine.specs.declared.act.Opening.{Opening}
use Rattle.ct_machine.specs.States.{opened}
use Rattle.ct_machine.specs.Runs.{replay, IsAllowed, Move, journal_of, IsRun}
use Rattle.ct_lun.specs.Desk.{Desk, opened_desk}
use Rattle.ct_lun.specs.States.{state_of}
use Rattle.ct_lun.proofs.Opens.{opened_agrees, opened_state, opened_room}
use Rattle.ct_pair.specs.Pairs.{IsPair}

no_moves : (o : Opening) → All (λ (m : Move). IsAllowed o m.act) []
no_moves o k d within = absurd (omega (arith, within))

empty_run : (o : Opening) → IsRun o []
unfolding journal_of
empty_run o = record { moves = []; allowed = no_moves o; made_by = refl }

opened_replay : (o : Opening) (blocks : List (List ℕ)) (faults : ℕ) → o.ha ≡ ha.None → blocks ≡ replicate o.blocks (replicate 512 0) → state_of (opened_desk o.lun o.depth o.pool blocks faults) (empty_book o.room) ≡ replay o []
unfolding replay
opened_replay o blocks faults single zeros =
    opened_state o.lun o.depth o.pool o.blocks blocks faults o.room zeros ∙ ap (λ (mode : Ha). opened (record o { ha = mode })) (sym single)

pub opened_pair : (o : Opening) (d : Desk) (p : BookState) (blocks : List (List ℕ)) (faults : ℕ) → o.ha ≡ ha.None → d ≡ opened_desk o.lun o.depth o.pool blocks faults → p ≡ empty_book o.room
    → blocks ≡ replicate o.blocks (replicate 512 0) → length blocks ≤ MOST_BLOCKS → faults ≡ 0 → IsPair o d p
opened_pair o d p blocks faults single desk book zeros few none =
    let room = opened_room o.lun o.depth o.pool blocks faults o.room in
    subst (λ (e : Desk). IsPair o e p) (sym desk) (subst (IsPair o (opened_desk o.lun o.depth o.pool blocks faults)) (sym book) (record {
      single = single;
      state = opened_replay o blocks faults single zeros;
      run = empty_run o;
      agrees = opened_agrees o.lun o.depth o.pool blocks faults o.room few;
      room = omega (arith, room);
      cuts = sym none;
    }))
