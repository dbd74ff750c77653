-- The fields of every row stand in rising order, so that the first that is refused is the lowest.
use Rattle.std.proofs.Common.{◌≡◌, ◌≢◌, ◌↔◌, ℕ, ◌+◌, ◌<◌, ◌≤◌, List, [], ◌∷◌, length, Bool, true, false, not, ◌&&◌, ◌==◌, nat_le, Option, Some, None, Result, Ok, Err, IfSome, IsSomeAnd, ◌⊎◌, refl, sym, ap, ◌∙◌, inl, inr, arith}
use Rattle.std.specs.Prelude.{slice_index}
use Rattle.std.specs.List.{list_any, list_all}
use Rattle.std.proofs.lemmas.Bool.{false≢true, cases_Bool, cases_order, and_parts, leb-true, ne_eqb, eq-eqb, eqb-true, eqb-false}
use Rattle.ct_cdb.specs.declared.op.Cdb.{Cdb}
use Rattle.ct_cdb.specs.declared.op.CdbFault.{CdbFault}
use Rattle.ct_cdb.specs.declared.op.CdbFault.TheVariants.{Empty, BadOperation, BadLength, BadField}
use Rattle.ct_cdb.specs.declared.row.Field.{Field}
use Rattle.ct_cdb.specs.declared.row.Row.{Row}
use Rattle.ct_cdb.specs.Forms.{rows, row_at, row_of, fields_of, accepted_cdb, tried, read_by, read_by_row, cdb_of}
use Rattle.ct_cdb.specs.Table.{HasRow, is_refused, IsAccepted, IsLowest}

-- whether a field that begins at this byte is one of those and refused
abbrev refused : List Field → ℕ → Bool
refused fields byte = list_any (λ (f : Field). not f.accepted && (f.byte == byte)) fields

-- each field begins behind the one before it, and the first at `low` or behind it
abbrev rising : ℕ → List Field → Bool
rising low [] = true
rising low (f ∷ fs) = nat_le low f.byte && rising (f.byte + 1) fs

none_below : (low byte : ℕ) (fields : List Field) → rising low fields ≡ true → byte < low → refused fields byte ≡ false
none_below low byte [] rises below = refl
none_below low byte (f ∷ fs) rises below =
    let parts = and_parts _ _ rises in
    let here : low ≤ f.byte = leb-true low f.byte parts.0 in
    let later = none_below (f.byte + 1) byte fs parts.1 (omega arith) in
    elim (cases_Bool f.accepted) [
      | inl accepts ↦ rw accepts later
      | inr refuses ↦ rw (refuses, ne_eqb f.byte byte (λ same. omega arith)) later
    ]

all_accepted : (fields : List Field) (answer cdb : Cdb) → tried fields answer ≡ Ok cdb → ((byte : ℕ) → refused fields byte ≡ false) × (cdb ≡ answer)
all_accepted [] answer cdb h = (λ byte. refl, cc)
all_accepted (f ∷ fs) answer cdb h = elim (cases_Bool f.accepted) [
  | inl accepts ↦
      let rest = all_accepted fs answer cdb (rw accepts at h) in
      (λ byte. rw accepts (rest.0 byte), rest.1)
  | inr refuses ↦ let other : Err (BadField f.byte) ≡ Ok cdb = rw refuses at h in absurd (cc)
]

none_refused : (fields : List Field) (answer : Cdb) → ((byte : ℕ) → refused fields byte ≡ false) → tried fields answer ≡ Ok answer
none_refused [] answer h = refl
none_refused (f ∷ fs) answer h = elim (cases_Bool f.accepted) [
  | inl accepts ↦ rw accepts (none_refused fs answer (λ byte. rw accepts at (h byte)))
  | inr refuses ↦ absurd (false≢true (sym (rw (refuses, eq-eqb f.byte f.byte refl) at (h f.byte))))
]

told_lowest : (low byte : ℕ) (fields : List Field) (answer : Cdb) → rising low fields ≡ true → tried fields answer ≡ Err (BadField byte) → IsLowest (refused fields) byte
told_lowest low byte [] answer rises h = absurd (cc)
told_lowest low byte (f ∷ fs) answer rises h =
    let parts = and_parts (nat_le low f.byte) (rising (f.byte + 1) fs) rises in
    elim (cases_Bool f.accepted) [
      | inl accepts ↦
          let rest = told_lowest (f.byte + 1) byte fs answer parts.1 (rw accepts at h) in
          record { passes = rw accepts rest.passes; lowest = λ lower below. rw accepts (rest.lowest lower below) }
      | inr refuses ↦
          let told : Err (BadField f.byte) ≡ Err (BadField byte) = rw refuses at h in
          let same : f.byte ≡ byte = cc in
          record {
            passes = rw (refuses, eq-eqb f.byte byte same) refl;
            lowest = λ lower below. rw (refuses, ne_eqb f.byte lower (λ here. omega arith)) (none_below (f.byte + 1) lower fs parts.1 (omega arith));
          }
    ]

lowest_told : (low byte : ℕ) (fields : List Field) (answer : Cdb) → rising low fields ≡ true → IsLowest (refused fields) byte → tried fields answer ≡ Err (BadField byte)
lowest_told low byte [] answer rises h = absurd (false≢true h.passes)
lowest_told low byte (f ∷ fs) answer rises h =
    let parts = and_parts (nat_le low f.byte) (rising (f.byte + 1) fs) rises in
    elim (cases_Bool f.accepted) [
      | inl accepts ↦ rw accepts (lowest_told (f.byte + 1) byte fs answer parts.1 (record { passes = rw accepts at h.passes; lowest = λ lower below. rw accepts at (h.lowest lower below) }))
      | inr refuses ↦ elim (cases_order f.byte byte) [
        | inl same ↦ rw (refuses, same) refl
        | inr differs ↦ elim differs [
          | inl below ↦ absurd (false≢true (sym (rw (refuses, eq-eqb f.byte f.byte refl) at (h.lowest f.byte below))))
          | inr above ↦
              let later = rw (refuses, ne_eqb f.byte byte (λ same. omega arith)) at h.passes in
              absurd (false≢true (sym (none_below (f.byte + 1) byte fs parts.1 (omega arith)) ∙ later))
        ]
      ]
    ]

-- each row of the table lists its fields in rising order
abbrev all_rise : List ℕ → List (ℕ × Row) → Bool
all_rise bytes all = list_all (λ (pair : ℕ × Row). rising 0 (fields_of pair.1 bytes)) all

rows_rise : (bytes : List ℕ) → all_rise bytes (rows bytes) ≡ true
rows_rise bytes = refl

record IsRising (bytes : List ℕ) (row : Option Row) : Type 0 where
  pub rises : IfSome row (λ row. rising 0 (fields_of row bytes) ≡ true)

rises_at : (bytes : List ℕ) (code : ℕ) (all : List (ℕ × Row)) → all_rise bytes all ≡ true
    → IsRising bytes (row_at code all)
rises_at bytes code [] rise = record { rises = tt }
rises_at bytes code (first ∷ others) rise =
    let parts = and_parts (rising 0 (fields_of first.1 bytes)) (all_rise bytes others) rise in
    elim (cases_Bool (code == first.0)) [
      | inl same ↦ rw same (record { rises = parts.0 })
      | inr differs ↦ rw differs (rises_at bytes code others parts.1)
    ]

row_rises : (bytes : List ℕ) → IsRising bytes (row_of bytes)
unfolding row_of
row_rises bytes = rises_at bytes (slice_index bytes 0) (rows bytes) (rows_rise bytes)

tried_cases : (fields : List Field) (answer : Cdb) → (tried fields answer ≡ Ok answer) ⊎ ((byte : ℕ) × (tried fields answer ≡ Err (BadField byte)))
tried_cases [] answer = inl refl
tried_cases (f ∷ fs) answer = elim (cases_Bool f.accepted) [
  | inl accepts ↦ rw accepts (tried_cases fs answer)
  | inr refuses ↦ rw refuses (inr (f.byte, refl))
]

-- what the table says of bytes that aren't none
told_operation : (bytes : List ℕ) (row : Option Row) → (read_by_row row bytes ≡ Err BadOperation) ↔ (row ≡ None)
told_operation bytes None = (λ _. refl, λ _. refl)
told_operation bytes (Some row) = (to, λ h. absurd (cc))
  where
    to : read_by row bytes ≡ Err BadOperation → Some row ≡ None
    to h = elim (cases_Bool (length bytes == row.size)) [
      | inl same ↦
          let told : tried (fields_of row bytes) (accepted_cdb row bytes) ≡ Err BadOperation = rw same at h in
          elim (tried_cases (fields_of row bytes) (accepted_cdb row bytes))
          [ inl ok ↦ absurd (cc) | inr (byte, bad) ↦ absurd (cc) ]
      | inr differs ↦ let told : Err (BadLength row.size (length bytes)) ≡ Err BadOperation =
          rw differs at h in absurd (cc)
    ]

told_length : (bytes : List ℕ) (want got : ℕ) (row : Option Row)
    → (read_by_row row bytes ≡ Err (BadLength want got)) ↔ IsSomeAnd row
    (λ row. (want ≡ row.size) × (got ≡ length bytes) × (got ≢ want))
told_length bytes want got None = (λ h. absurd (cc), λ h. absurd h)
told_length bytes want got (Some row) = (to, from)
  where
    to : read_by row bytes ≡ Err (BadLength want got) → (want ≡ row.size) × (got ≡ length bytes) × (got ≢ want)
    to h = elim (cases_Bool (length bytes == row.size)) [
      | inl same ↦
          let told : tried (fields_of row bytes) (accepted_cdb row bytes) ≡ Err (BadLength want got) = rw same at h in
          elim (tried_cases (fields_of row bytes) (accepted_cdb row bytes))
          [ inl ok ↦ absurd (cc) | inr (byte, bad) ↦ absurd (cc) ]
      | inr differs ↦
          let told : Err (BadLength row.size (length bytes)) ≡ Err (BadLength want got) = rw differs at h in
          let wanted : want ≡ row.size = cc in
          let had : got ≡ length bytes = cc in
          (wanted, had, λ same. eqb-false (length bytes) row.size differs (omega arith))
    ]

    from : (want ≡ row.size) × (got ≡ length bytes) × (got ≢ want) → read_by row bytes ≡ Err (BadLength want got)
    from h = rw (ne_eqb (length bytes) row.size (λ same. h.2 (omega arith)), h.0, h.1) refl

told_field : (bytes : List ℕ) (byte : ℕ) (row : Option Row) → IsRising bytes row
    → (read_by_row row bytes ≡ Err (BadField byte)) ↔ IsSomeAnd row
    (λ row. (length bytes ≡ row.size) × IsLowest (is_refused row bytes) byte)
told_field bytes byte None rising = (λ h. absurd (cc), λ h. absurd h)
told_field bytes byte (Some row) rising = (to, from)
  where
    to : read_by row bytes ≡ Err (BadField byte) → (length bytes ≡ row.size) × IsLowest (is_refused row bytes) byte
    to h = elim (cases_Bool (length bytes == row.size)) [
      | inl same ↦ (
        eqb-true (length bytes) row.size same,
        told_lowest 0 byte (fields_of row bytes) (accepted_cdb row bytes)
            rising.rises (rw same at h),
      )
      | inr differs ↦ let told : Err (BadLength row.size (length bytes)) ≡ Err (BadField byte) =
          rw differs at h in absurd (cc)
    ]

    from : (length bytes ≡ row.size) × IsLowest (is_refused row bytes) byte → read_by row bytes ≡ Err (BadField byte)
    from h = rw (eq-eqb (length bytes) row.size h.0)
        (lowest_told 0 byte (fields_of row bytes) (accepted_cdb row bytes) rising.rises h.1)

accepts_row : (bytes : List ℕ) (cdb : Cdb) (row : Option Row)
    → (read_by_row row bytes ≡ Ok cdb) ↔ IsSomeAnd row (λ row. IsAccepted row bytes × (cdb ≡ accepted_cdb row bytes))
accepts_row bytes cdb None = (λ h. absurd (cc), λ h. absurd h)
accepts_row bytes cdb (Some row) = (to, from)
  where
    to : read_by row bytes ≡ Ok cdb → IsAccepted row bytes × (cdb ≡ accepted_cdb row bytes)
    to h = elim (cases_Bool (length bytes == row.size)) [
      | inl same ↦
          let all = all_accepted (fields_of row bytes) (accepted_cdb row bytes) cdb (rw same at h) in
          ((eqb-true (length bytes) row.size same, all.0), all.1)
      | inr differs ↦ let told : Err (BadLength row.size (length bytes)) ≡ Ok cdb = rw differs at h in absurd (cc)
    ]

    from : IsAccepted row bytes × (cdb ≡ accepted_cdb row bytes) → read_by row bytes ≡ Ok cdb
    from h = rw (eq-eqb (length bytes) row.size h.0.0)
        (none_refused (fields_of row bytes) (accepted_cdb row bytes) h.0.1 ∙ ap Ok (sym h.1))

-- no bytes are told as such, and all others by their row
by_row : (bytes : List ℕ) (answer : Result Cdb CdbFault) (holds : Row → Type 0) → (Err Empty ≡ answer → ⊥)
    → (read_by_row (row_of bytes) bytes ≡ answer) ↔ IsSomeAnd (row_of bytes) holds
    → (cdb_of bytes ≡ answer) ↔ HasRow bytes holds
by_row [] answer holds other both = (λ h. absurd (other h), λ h. absurd (h.0 refl))
by_row (code ∷ others) answer holds other both =
    let some : (length (code ∷ others) == 0) ≡ false = ne_eqb (length (code ∷ others)) 0 (λ none. omega arith) in
    (λ h. (λ none. cc, both.0 (rw some at h)), λ h. rw some (both.1 h.1))

pub empty : (bytes : List ℕ) → (cdb_of bytes ≡ Err Empty) ↔ (bytes ≡ [])
empty [] = (λ _. refl, λ _. refl)
empty (code ∷ others) = (to, λ h. absurd (cc))
  where
    to : cdb_of (code ∷ others) ≡ Err Empty → code ∷ others ≡ []
    to h =
        let some : (length (code ∷ others) == 0) ≡ false = ne_eqb (length (code ∷ others)) 0 (λ none. omega arith) in
        absurd (never_empty (row_of (code ∷ others)) (rw some at h))
      where
        never_empty : (row : Option Row) → read_by_row row (code ∷ others) ≡ Err Empty → ⊥
        never_empty None told = cc
        never_empty (Some row) told = elim (cases_Bool (length (code ∷ others) == row.size)) [
          | inl same ↦
              let tried_so : tried (fields_of row (code ∷ others)) (accepted_cdb row (code ∷ others)) ≡ Err Empty =
              rw same at told in
              elim (tried_cases (fields_of row (code ∷ others)) (accepted_cdb row (code ∷ others)))
              [ inl ok ↦ absurd (cc) | inr (byte, bad) ↦ absurd (cc) ]
          | inr differs ↦ let told_so : Err (BadLength row.size (length (code ∷ others))) ≡ Err Empty =
              rw differs at told in absurd (cc)
        ]

pub bad_operation : (bytes : List ℕ) → (cdb_of bytes ≡ Err BadOperation) ↔ ((bytes ≢ []) × (row_of bytes ≡ None))
bad_operation [] = (λ h. absurd (cc), λ h. absurd (h.0 refl))
bad_operation (code ∷ others) =
    let some : (length (code ∷ others) == 0) ≡ false = ne_eqb (length (code ∷ others)) 0 (λ none. omega arith) in
    let both = told_operation (code ∷ others) (row_of (code ∷ others)) in
    (λ h. (λ none. cc, both.0 (rw some at h)), λ h. rw some (both.1 h.1))

pub bad_length : (bytes : List ℕ) (want got : ℕ)
    → (cdb_of bytes ≡ Err (BadLength want got)) ↔ HasRow bytes
    (λ row. (want ≡ row.size) × (got ≡ length bytes) × (got ≢ want))
bad_length bytes want got =
    by_row bytes (Err (BadLength want got)) _ (λ h. cc) (told_length bytes want got (row_of bytes))

pub bad_field : (bytes : List ℕ) (byte : ℕ)
    → (cdb_of bytes ≡ Err (BadField byte)) ↔ HasRow bytes
    (λ row. (length bytes ≡ row.size) × IsLowest (is_refused row bytes) byte)
bad_field bytes byte =
    by_row bytes (Err (BadField byte)) _ (λ h. cc) (told_field bytes byte (row_of bytes) (row_rises bytes))

pub accepted : (bytes : List ℕ) (cdb : Cdb)
    → (cdb_of bytes ≡ Ok cdb) ↔ HasRow bytes (λ row. IsAccepted row bytes × (cdb ≡ accepted_cdb row bytes))
accepted bytes cdb = by_row bytes (Ok cdb) _ (λ h. cc) (accepts_row bytes cdb (row_of bytes))
