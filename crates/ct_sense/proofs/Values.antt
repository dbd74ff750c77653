-- The value that bytes are a form of.
use Rattle.std.proofs.Common.{◌≡◌, ◌<◌, ◌^◌, ◌==◌, ℕ, List, [], Bool, true, false, Option, Some, None, IfSome, slice_index, if◌then◌else◌, refl, sym, ap, ◌∙◌, arith}
use Rattle.byteorder.specs.Numbers.{big_number-reads_back}
use Rattle.ct_word.specs.Fields.{number_at}
use Rattle.ct_sense.specs.declared.sense.Sense.{Sense}
use Rattle.ct_sense.specs.Forms.{IsSense, fixed_code, fixed_bytes, descriptor_bytes, bytes_of_sense}

-- what the fields of the fixed form say
abbrev pub fixed_value : List ℕ → Sense
fixed_value bytes = record {
  key = slice_index bytes 2;
  asc = slice_index bytes 12;
  ascq = slice_index bytes 13;
  info = if slice_index bytes 0 == 0xf0 then Some (number_at 4 3 bytes) else None;
}

-- what the fields of the descriptor form say
abbrev pub descriptor_value : List ℕ → Sense
descriptor_value bytes = record {
  key = slice_index bytes 1;
  asc = slice_index bytes 2;
  ascq = slice_index bytes 3;
  info = if slice_index bytes 7 == 0x0c then Some (number_at 4 16 bytes) else None;
}

abbrev of_fields : ℕ → ℕ → ℕ → Option ℕ → Sense
of_fields key asc ascq info = record { key = key; asc = asc; ascq = ascq; info = info }

fixed_fields : (key asc ascq : ℕ) (info : Option ℕ) → IfSome info (λ information. information < 2 ^ 32) → fixed_value (fixed_bytes (of_fields key asc ascq info)) ≡ of_fields key asc ascq info
fixed_fields key asc ascq None h = refl
fixed_fields key asc ascq (Some information) h = rw (big_number-reads_back 4 information _ (omega arith)) refl

descriptor_fields : (key asc ascq : ℕ) (info : Option ℕ) → IfSome info (λ information. information < 2 ^ 32) → descriptor_value (descriptor_bytes (of_fields key asc ascq info)) ≡ of_fields key asc ascq info
descriptor_fields key asc ascq None h = refl
descriptor_fields key asc ascq (Some information) h = rw (big_number-reads_back 4 information [] (omega arith)) refl

pub fixed_again : (s : Sense) → IsSense s → fixed_value (fixed_bytes s) ≡ s
fixed_again s h = fixed_fields s.key s.asc s.ascq s.info h.info

pub descriptor_again : (s : Sense) → IsSense s → descriptor_value (descriptor_bytes s) ≡ s
descriptor_again s h = descriptor_fields s.key s.asc s.ascq s.info h.info

other_code : (info : Option ℕ) → fixed_code info ≡ 0x72 → ⊥
other_code None e = omega arith
other_code (Some information) e = omega arith

-- the two forms begin with other bytes
apart : (a b : Sense) → fixed_bytes a ≡ descriptor_bytes b → ⊥
apart a b e = other_code a.info (ap (λ (bytes : List ℕ). slice_index bytes 0) e)

pub one_value : (a b : Sense) (f g : Bool) → IsSense a → IsSense b → bytes_of_sense a f ≡ bytes_of_sense b g → (a ≡ b) × (f ≡ g)
one_value a b true true ha hb e = (sym (descriptor_again a ha) ∙ ap descriptor_value e ∙ descriptor_again b hb, refl)
one_value a b false false ha hb e = (sym (fixed_again a ha) ∙ ap fixed_value e ∙ fixed_again b hb, refl)
one_value a b true false ha hb e = absurd (apart b a (sym e))
one_value a b false true ha hb e = absurd (apart a b e)
