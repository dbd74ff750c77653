-- What may be written into the book of a unit.
use Rattle.std.proofs.Common.{◌≡◌, ℕ, true, false, Option, Some, None, IsSome, IsSomeAnd, ◌<◌, length, refl}
use Rattle.std.proofs.Common.{sym, ◌∙◌, subst}
use Rattle.ct_sense.specs.declared.reply.Reply.{Reply}
use Rattle.ct_matrix.specs.declared.held.HeldCommand.{HeldCommand}
use Rattle.ct_matrix.specs.Queues.{command_of}
use Rattle.ct_book.specs.declared.event.Event.{Event}
use Rattle.ct_book.specs.Journals.{KeptWork, BookState, numbered, is_command, with_reply}
use Rattle.ct_book.specs.Kept.{IsCommandNo, CanBePushed}
use Rattle.ct_lun.specs.Desk.{Desk, slot_at}
use Rattle.ct_lun.specs.Agreement.{Agrees}
use Rattle.ct_lun.specs.Calls.{IsOver, by_end, by_medium}
use Rattle.ct_lun.proofs.Keeps.{slot_agrees, held_found}
use Rattle.ct_lun.proofs.Tasks.{begun_stage}
use Rattle.ct_lun.proofs.Effects.{reply_kept}

pub can_close : (p : BookState) (number : ℕ) (reply : Reply) (e : Event) → IsCommandNo p number → numbered number p.replies ≡ Some None → IsOver number e → CanBePushed (with_reply p number reply) e
can_close p number reply e command unanswered by_end = (command, tt, rw (reply_kept p number reply unanswered) refl)
can_close p number reply e command unanswered (by_medium puts) = (command, tt, rw (reply_kept p number reply unanswered) refl)

pub is_command_no : (d : Desk) (p : BookState) (at : ℕ) → Agrees d p → at < length d.slots → IsCommandNo p (slot_at d.slots at).no
is_command_no d p at a h =
    subst (λ (o : Option KeptWork). IsSomeAnd o (λ came. is_command came ≡ true)) (sym (slot_agrees d p at a h).command) refl

pub is_held : (d : Desk) (p : BookState) (at : ℕ) → Agrees d p → at < length d.slots → IsSome (command_of (slot_at d.slots at).no d.set.commands)
is_held d p at a h = rw (held_found d p at a h) refl

pub waits_held : (d : Desk) (p : BookState) (at : ℕ) → Agrees d p → at < length d.slots → (slot_at d.slots at).begun ≡ false → IsSomeAnd (command_of (slot_at d.slots at).no d.set.commands) (λ command. command.held.begun ≡ false)
waits_held d p at a h waits =
    subst (λ (o : Option HeldCommand). IsSomeAnd o (λ command. command.held.begun ≡ false)) (sym (held_found d p at a h)) (begun_stage (slot_at d.slots at) ∙ waits)
