-- Unit attention conditions of all I_T nexuses (SAM-5, 5.14): a list of 256 sets of codes, that of a nexus at its
-- place. Where a nexus has no place among them, it has no condition, and none is raised for it.
use Rattle.std.specs.Prelude.{List, [], ◌∷◌, Bool, true, false, map, replicate, slice_index_or, slice_set, Option, None, Some}
use Rattle.ct_word.specs.Nexuses.{place_of}
use Rattle.ct_word.specs.declared.names.Nexus.{Nexus}
use Rattle.ct_word.specs.declared.names.Code.{Code}
use Rattle.ct_word.specs.declared.names.Code.TheVariants.{PowerOn}
use Rattle.ct_ua.specs.declared.code_set.CodeSet.{CodeSet}
use Rattle.ct_ua.specs.CodeSets.{no_codes, with_code, without_code, first_of}

-- no nexus has a condition
unfoldable pub no_attentions : List CodeSet
no_attentions = replicate 256 no_codes

-- power came on: each nexus has that one condition
unfoldable pub power_on_attentions : List CodeSet
power_on_attentions = replicate 256 (with_code no_codes PowerOn)

-- the codes of a nexus
abbrev pub codes_of : List CodeSet → Nexus → CodeSet
codes_of attentions nexus = slice_index_or attentions (place_of nexus) no_codes

-- other codes for a nexus
abbrev pub with_codes : List CodeSet → Nexus → CodeSet → List CodeSet
with_codes attentions nexus codes = slice_set attentions (place_of nexus) codes

-- the code that a nexus is told first
unfoldable pub first_code : List CodeSet → Nexus → Option Code
first_code attentions nexus = first_of (codes_of attentions nexus)

-- the first code of a nexus is taken, if it has one
abbrev pub without_first : List CodeSet → Nexus → Option Code → List CodeSet
without_first attentions nexus None = attentions
without_first attentions nexus (Some first) =
    with_codes attentions nexus (without_code (codes_of attentions nexus) first)

unfoldable pub after_take : List CodeSet → Nexus → List CodeSet
after_take attentions nexus = without_first attentions nexus (first_of (codes_of attentions nexus))

-- a code is raised for a nexus
unfoldable pub after_raise : List CodeSet → Nexus → Code → List CodeSet
after_raise attentions nexus code = with_codes attentions nexus (with_code (codes_of attentions nexus) code)

-- a code is raised for every nexus
unfoldable pub after_raise_for_all : List CodeSet → Code → List CodeSet
after_raise_for_all attentions code = map (λ codes. with_code codes code) attentions

-- a code is raised for every nexus but one
unfoldable pub after_raise_for_others : List CodeSet → Nexus → Code → List CodeSet
after_raise_for_others attentions nexus code =
    with_codes (after_raise_for_all attentions code) nexus (codes_of attentions nexus)

-- a code is raised for each nexus of a set
abbrev pub raised_if : Bool → CodeSet → Code → CodeSet
raised_if true codes code = with_code codes code
raised_if false codes code = codes

unfoldable pub after_raise_for : List CodeSet → List Bool → Code → List CodeSet
after_raise_for attentions [] code = attentions
after_raise_for [] (is_in ∷ set) code = []
after_raise_for (codes ∷ attentions) (is_in ∷ set) code = raised_if is_in codes code ∷ after_raise_for attentions set code

-- all codes of a nexus are dropped
unfoldable pub after_clear : List CodeSet → Nexus → List CodeSet
after_clear attentions nexus = with_codes attentions nexus no_codes
