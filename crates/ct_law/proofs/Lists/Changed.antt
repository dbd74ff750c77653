-- The task set after two changes of one command.
use Rattle.std.proofs.Common.{◌≡◌, ℕ, Bool, true, false, List, [], ◌∷◌, refl, sym, ap, ◌∙◌, nat_eq, cond, eqb-true}
use Rattle.std.proofs.Common.{eq-eqb}
use Rattle.ct_machine.specs.States.{Task, without_task, with_task}

pub with_with : (w v : Task) (q : List Task) → w.no ≡ v.no → with_task w (with_task v q) ≡ with_task w q
with_with w v [] e = refl
with_with w v (y ∷ ys) e = go (nat_eq y.no v.no) refl (with_with w v ys e)
  where
    go : (t : Bool) → nat_eq y.no v.no ≡ t → with_task w (with_task v ys) ≡ with_task w ys →
        with_task w (cond t v y ∷ with_task v ys) ≡ with_task w (y ∷ ys)
    go true a ih =
        ap (λ b. cond b w v ∷ with_task w (with_task v ys)) (eq-eqb v.no w.no (sym e)) ∙ ap (λ l. w ∷ l) ih
        ∙ sym (ap (λ b. cond b w y ∷ with_task w ys) (eq-eqb y.no w.no (eqb-true y.no v.no a ∙ sym e)))
    go false a ih = ap (λ l. cond (nat_eq y.no w.no) w y ∷ l) ih

pub without_with : (n : ℕ) (w : Task) (q : List Task) → w.no ≡ n → without_task n (with_task w q) ≡ without_task n q
without_with n w [] e = refl
without_with n w (y ∷ ys) e = go (nat_eq y.no w.no) refl (without_with n w ys e)
  where
    go : (t : Bool) → nat_eq y.no w.no ≡ t → without_task n (with_task w ys) ≡ without_task n ys →
        without_task n (cond t w y ∷ with_task w ys) ≡ without_task n (y ∷ ys)
    go true a ih =
        ap (λ b. cond b (without_task n (with_task w ys)) (w ∷ without_task n (with_task w ys))) (eq-eqb w.no n e) ∙ ih
        ∙ sym (ap (λ b. cond b (without_task n ys) (y ∷ without_task n ys)) (eq-eqb y.no n (eqb-true y.no w.no a ∙ e)))
    go false a ih = ap (λ l. cond (nat_eq y.no n) l (y ∷ l)) ih
