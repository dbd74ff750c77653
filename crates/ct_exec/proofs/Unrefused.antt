-- Where no check refuses.
use Rattle.std.proofs.Common.{◌≡◌, List, ◌∷◌, Option, None, Some, refl, ap, ◌∙◌}
use Rattle.ct_sense.specs.declared.reply.Reply.{Reply}
use Rattle.ct_exec.specs.Executions.{first_refusal}

-- neither the first does, nor one behind it
pub first_parts : (check : Option Reply) (checks : List (Option Reply)) → first_refusal (check ∷ checks) ≡ None
    → (check ≡ None) × (first_refusal checks ≡ None)
first_parts (Some reply) checks none = absurd (cc)
first_parts None checks none = (refl, none)

pub first_none : (check : Option Reply) (checks : List (Option Reply)) → check ≡ None → first_refusal checks ≡ None
    → first_refusal (check ∷ checks) ≡ None
first_none check checks here behind = ap (λ (c : Option Reply). first_refusal (c ∷ checks)) here ∙ behind
