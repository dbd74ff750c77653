-- The order of the task set, against the order of entering.
use Rattle.std.proofs.Common.{◌≡◌, ℕ, true, false, List, [], ◌∷◌, ◌++◌, refl, sym, ap, ◌∙◌, subst, ⊎_elim, eqb-true}
use Rattle.std.proofs.lemmas.Bool.{both_ways}
use Rattle.ct_matrix.specs.Conflicts.{is_head}
use Rattle.ct_book.specs.declared.work.Command.{Command}
use Rattle.ct_book.specs.declared.event.Event.TheVariants as event
use Rattle.ct_book.specs.declared.event.Logged.{Logged}
use Rattle.ct_machine.specs.States.{Task, Stage, is_waiting, without_task, with_task, at_stage, queued}
use Rattle.ct_machine.specs.Laws.Journals.{is_enter, has, comes_first}
use Rattle.ct_law.proofs.Lists.Tasks.{Has, has_without, has_with, has_queued, precedes, precedes_without, precedes_with}
use Rattle.ct_law.proofs.Lists.Tasks.{precedes_queued, last_queued, head_queued}
use Rattle.ct_law.proofs.Journals.Journal.{first_more, first_old, first_has}

pub record Orders (journal : List Logged) (queue : List Task) : Type 0 where
  pub first : (x y : Task) → Has queue x → Has queue y → (x.no ≡ y.no → ⊥) → is_head y.command.attr ≡ false →
      comes_first (is_enter x.no) (is_enter y.no) journal ≡ true → precedes x.no y.no queue ≡ true
  pub head : (x y : Task) → Has queue x → Has queue y → (x.no ≡ y.no → ⊥) → is_head y.command.attr ≡ false →
      is_head x.command.attr ≡ true → is_waiting y.stage ≡ true → precedes x.no y.no queue ≡ true

pub orders_event : (journal : List Logged) (queue : List Task) (e : Logged) → ((n : ℕ) → is_enter n e.event ≡ false) →
    Orders journal queue → Orders (journal ++ e ∷ []) queue
orders_event journal queue e never h = record {
  first = λ x y hx hy ne hd f. h.first x y hx hy ne hd
      (first_old (is_enter x.no) (is_enter y.no) journal e (never x.no) f);
  head = h.head;
}

pub orders_turns : (journal : List Logged) (queue : List Task) (x : Task) (stage : Stage) → Has queue x →
    is_waiting stage ≡ false → Orders journal queue → Orders journal (with_task (at_stage stage x) queue)
orders_turns journal queue x stage hx nw h = record {
  first = λ y z my mz ne hd f. let a = old y my in let b = old z mz in
      precedes_with y.no z.no w queue ∙ subst₂' (λ i j. precedes i j queue ≡ true) a.2.0 b.2.0
      (h.first a.0 b.0 a.1 b.1 (λ e. ne (sym a.2.0 ∙ e ∙ b.2.0)) (ap (λ (c : Command). is_head c.attr) b.2.1 ∙ hd)
      (subst₂' (λ i j. comes_first (is_enter i) (is_enter j) journal ≡ true) (sym a.2.0) (sym b.2.0) f));
  head = λ y z my mz ne hd hh wz. let a = old y my in
      let b : Has queue z × (z.no ≡ x.no → ⊥) =
      ⊎_elim (λ (e : w ≡ z). absurd
      (both_ways (is_waiting z.stage) (subst (λ (i : Task). is_waiting i.stage ≡ false) e nw) wz))
      (λ (o : Has queue z × (z.no ≡ x.no → ⊥)). o) (has_with w queue z mz) in
      precedes_with y.no z.no w queue ∙ subst (λ i. precedes i z.no queue ≡ true) a.2.0
      (h.head a.0 z a.1 b.0 (λ e. ne (sym a.2.0 ∙ e)) hd (ap (λ (c : Command). is_head c.attr) a.2.1 ∙ hh) wz);
}
  where
    w : Task
    w = at_stage stage x

    subst₂' : {A B : Type 0} (P : A → B → Type 0) {a a' : A} {b b' : B} → a ≡ a' → b ≡ b' → P a b → P a' b'
    subst₂' P {a} {a'} {b} {b'} p q h = subst (P a') q (subst (λ i. P i b) p h)

    old : (y : Task) → Has (with_task w queue) y → (z : Task) × Has queue z × ((z.no ≡ y.no) × (z.command ≡ y.command))
    old y m = ⊎_elim
        (λ (e : w ≡ y). (x, hx, (ap (λ (i : Task). i.no) e, ap (λ (i : Task). i.command) e)))
        (λ (o : Has queue y × (y.no ≡ x.no → ⊥)). (y, o.0, (refl, refl)))
        (has_with w queue y m)

pub orders_removes : (journal : List Logged) (queue : List Task) (n : ℕ) → Orders journal queue →
    Orders journal (without_task n queue)
orders_removes journal queue n h = record {
  first = λ x y kx ky ne hd f. let a = has_without n queue x kx in let b = has_without n queue y ky in
      precedes_without x.no y.no n queue a.1 (h.first x y a.0 b.0 ne hd f);
  head = λ x y kx ky ne hd hh wy. let a = has_without n queue x kx in let b = has_without n queue y ky in
      precedes_without x.no y.no n queue a.1 (h.head x y a.0 b.0 ne hd hh wy);
}

pub orders_in : (journal : List Logged) (queue : List Task) (w : Task) (e : Logged) → e.event ≡ event.Enter w.no →
    ((y : Task) → Has queue y → y.no ≡ w.no → ⊥) → ((y : Task) → Has queue y → has (is_enter y.no) journal ≡ true) →
    ((x y : Task) → Has queue x → Has queue y → x.no ≡ y.no → x ≡ y) → has (is_enter w.no) journal ≡ false →
    Orders journal queue → Orders (journal ++ e ∷ []) (queued w queue)
orders_in journal queue w en is new entered single unentered h = record {
  first = λ x y kx ky ne hd f. ⊎_elim
      (λ (a : Has queue x). ⊎_elim
      (λ (b : Has queue y). precedes_queued x.no y.no queue w (λ e. new y b (sym e))
      (h.first x y a b ne hd (⊎_elim (λ k. k) (λ (k : (is_enter x.no en.event ≡ true) × (is_enter y.no en.event ≡ false) × (has (is_enter y.no) journal ≡ false)). absurd (new x a (sym (eqb-true w.no x.no (sym (ap (is_enter x.no) is) ∙ k.0)))))
      (first_more (is_enter x.no) (is_enter y.no) journal en f))))
      (λ (b : w ≡ y). subst (λ (z : Task). precedes x.no z.no (queued w queue) ≡ true) b
      (last_queued queue x w (subst (λ (z : Task). is_head z.command.attr ≡ false) (sym b) hd) a new))
      (has_queued w queue y ky))
      (λ (a : w ≡ x). ⊎_elim
      (λ (b : Has queue y). absurd (⊎_elim
      (λ (k : comes_first (is_enter x.no) (is_enter y.no) journal ≡ true). both_ways (has (is_enter x.no) journal)
      (subst (λ (z : Task). has (is_enter z.no) journal ≡ false) a unentered)
      (first_has (is_enter x.no) (is_enter y.no) journal k))
      (λ (k : (is_enter x.no en.event ≡ true) × (is_enter y.no en.event ≡ false) × (has (is_enter y.no) journal ≡ false)). both_ways (has (is_enter y.no) journal) k.2 (entered y b))
      (first_more (is_enter x.no) (is_enter y.no) journal en f)))
      (λ (b : w ≡ y). absurd (ne (ap (λ (i : Task). i.no) (sym a ∙ b))))
      (has_queued w queue y ky))
      (has_queued w queue x kx);
  head = λ x y kx ky ne hd hh wy. ⊎_elim
      (λ (a : Has queue x). ⊎_elim
      (λ (b : Has queue y). precedes_queued x.no y.no queue w (λ e. new y b (sym e)) (h.head x y a b ne hd hh wy))
      (λ (b : w ≡ y). subst (λ (z : Task). precedes x.no z.no (queued w queue) ≡ true) b
      (last_queued queue x w (subst (λ (z : Task). is_head z.command.attr ≡ false) (sym b) hd) a new))
      (has_queued w queue y ky))
      (λ (a : w ≡ x). ⊎_elim
      (λ (b : Has queue y). subst (λ (z : Task). precedes z.no y.no (queued w queue) ≡ true) a
      (head_queued queue w y (subst (λ (z : Task). is_head z.command.attr ≡ true) (sym a) hh) b wy
      (λ e. new y b (sym e)) (λ z hz e. single z y hz b e)))
      (λ (b : w ≡ y). absurd (ne (ap (λ (i : Task). i.no) (sym a ∙ b))))
      (has_queued w queue y ky))
      (has_queued w queue x kx);
}
