-- What contracts see of a list with reserved room.
use Rattle.std.specs.Prelude.{◌≡◌, ℕ, ◌+◌, List, [], ◌∷◌, ◌++◌, Option, None, Some, refl}
use Rattle.std.specs.Coded.{Coded, code_by, coded×, coded_ℕ, coded_list}

-- the items, and how many more fit
pub record Kept (T : Type 0) : Type 0 where
  pub items : List T
  pub room : ℕ

-- such a list is stored as the pair of its fields
abbrev pub kept_code : {T : Type 0} → Coded T → Coded (Kept T)
kept_code {T} code =
    code_by (List T × ℕ) (coded× (coded_list code) coded_ℕ) (λ k. (k.items, k.room)) (λ p. record { items = p.0; room = p.1 }) (λ _. refl)

-- the last item was taken off, or there was none
abbrev pub Pops : {T : Type 0} → Kept T → Kept T → Option T → Type 0
Pops old new None = (old.items ≡ []) × (new ≡ old)
Pops old new (Some item) = (old.items ≡ new.items ++ item ∷ []) × (new.room ≡ old.room + 1)
