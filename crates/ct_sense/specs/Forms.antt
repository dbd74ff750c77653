-- The bytes of sense data (SPC-4, 4.5), in one of two forms, for an error of the command itself. Fields
-- that no comment names are 0.
use Rattle.std.specs.Prelude.{◌≡◌, ◌<◌, ◌^◌, ℕ, List, [], ◌∷◌, ◌++◌, Bool, true, false, Option, Some, None, IfSome}
use Rattle.ct_word.specs.Fields.{bytes_of}
use Rattle.ct_sense.specs.declared.sense.Sense.{Sense}

-- a value whose fields fit their places. SENSE KEY has the low four bits of its byte, and the other four
-- are flags that are 0 here: bytes with 16 or more in that place are no form of any value
pub record IsSense (sense : Sense) : Type 0 where
  pub key : sense.key < 16
  pub asc : sense.asc < 256
  pub ascq : sense.ascq < 256
  pub info : IfSome sense.info (λ information. information < 2 ^ 32)

-- byte 0 of the fixed form: VALID, bit 7, is set where INFORMATION is given, and RESPONSE CODE is 70h
abbrev pub fixed_code : Option ℕ → ℕ
fixed_code None = 0x70
fixed_code (Some information) = 0xf0

-- INFORMATION of the fixed form, four bytes
abbrev pub fixed_information : Option ℕ → List ℕ
fixed_information None = 0 ∷ 0 ∷ 0 ∷ 0 ∷ []
fixed_information (Some information) = bytes_of 4 information

-- the fixed form (SPC-4, 4.5.3), 18 bytes: byte 2 is SENSE KEY, bytes 3 to 6 are INFORMATION, byte 7
-- is ADDITIONAL SENSE LENGTH, byte 12 ADDITIONAL SENSE CODE and byte 13 its qualifier
abbrev pub fixed_bytes : Sense → List ℕ
fixed_bytes sense =
    fixed_code sense.info ∷ 0 ∷ sense.key ∷ []
    ++ fixed_information sense.info
    ++ 0x0a ∷ 0 ∷ 0 ∷ 0 ∷ 0 ∷ sense.asc ∷ sense.ascq ∷ 0 ∷ 0 ∷ 0 ∷ 0 ∷ []

-- ADDITIONAL SENSE LENGTH of the descriptor form, the number of bytes that follow it, and these: the
-- information descriptor (SPC-4, 4.5.2.2), type 00h, with its own ADDITIONAL LENGTH, its VALID bit and
-- INFORMATION in eight bytes, the highest four of them 0
abbrev pub descriptors : Option ℕ → List ℕ
descriptors None = 0 ∷ []
descriptors (Some information) = 0x0c ∷ 0x00 ∷ 0x0a ∷ 0x80 ∷ 0 ∷ 0 ∷ 0 ∷ 0 ∷ 0 ∷ [] ++ bytes_of 4 information

-- the descriptor form (SPC-4, 4.5.2), 8 or 20 bytes: RESPONSE CODE, SENSE KEY, ADDITIONAL SENSE CODE
-- and its qualifier, three zeros and the descriptors behind their length
abbrev pub descriptor_bytes : Sense → List ℕ
descriptor_bytes sense = 0x72 ∷ sense.key ∷ sense.asc ∷ sense.ascq ∷ 0 ∷ 0 ∷ 0 ∷ [] ++ descriptors sense.info

-- the bytes in the descriptor form, or else in the fixed form
abbrev pub bytes_of_sense : Sense → Bool → List ℕ
bytes_of_sense sense true = descriptor_bytes sense
bytes_of_sense sense false = fixed_bytes sense

-- the bytes are one of the two forms of the value
abbrev pub IsSenseForm : List ℕ → Sense → Type 0
IsSenseForm bytes sense = (descriptor : Bool) × (bytes ≡ bytes_of_sense sense descriptor)
