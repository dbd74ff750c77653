-- Ports and numbers have places of their own.
use Rattle.std.proofs.Common.{◌≡◌, ◌≢◌, ◌<◌, ℕ, zero, suc, ◌+◌, ◌*◌, Bool, true, false, Option, None, Some, refl, ap, ◌∙◌, arith}
use Rattle.std.proofs.Common.{slice_index_or, slice_set, replicate, get_or-set_same, get_or-set_other}
use Rattle.std.specs.Prelude.{if◌then◌else◌}
use Rattle.std.proofs.lemmas.Bool.Decides.{nat_tests}
use Rattle.ct_word.specs.Nexuses.{IsNexus, place_of}
use Rattle.ct_word.specs.declared.names.LunNo.{LunNo}
use Rattle.ct_word.specs.declared.names.Nexus.{Nexus}
use Rattle.ct_word.specs.declared.names.Node.{Node}
use Rattle.ct_map.specs.Maps.{Declared, HasPlaces, nothing_declared, node_of, with_port, is_place, place_in, is_same_place, unit_of, with_unit}

-- nothing is declared at first

none_at : {X : Type 0} (count place : ℕ) → slice_index_or (replicate {A = Option X} count None) place None ≡ None
none_at zero place = refl
none_at (suc count) zero = refl
none_at (suc count) (suc place) = none_at count place

pub no_port : (port : ℕ) → node_of nothing_declared port ≡ None
unfolding nothing_declared node_of
no_port port = none_at 16 port

pub no_unit : (nexus : Nexus) (x : ℕ) → unit_of nothing_declared nexus x ≡ None
unfolding nothing_declared unit_of
no_unit nexus x = go (is_place nexus x)
  where
    go : (t : Bool) → (if t then slice_index_or (replicate {A = Option LunNo} 4096 None) (place_in nexus x) None else None) ≡ None
    go true = none_at 4096 (place_in nexus x)
    go false = refl

pub port_added : (declared : Declared) (port : ℕ) (node : Node) → HasPlaces declared → port < 16
    → node_of (with_port declared port node) port ≡ Some node
unfolding node_of with_port
port_added declared port node has below =
    get_or-set_same declared.nodes port (Some node) None (omega (arith, has.ports, below))

pub other_port : (declared : Declared) (port other : ℕ) (node : Node) → other ≢ port
    → node_of (with_port declared port node) other ≡ node_of declared other
unfolding node_of with_port
other_port declared port other node differ = get_or-set_other declared.nodes port other (Some node) None differ

-- a place is that of one number of one nexus

place_within : (nexus : Nexus) → IsNexus nexus → place_of nexus ≡ nexus.port * 16 + nexus.init
place_within nexus in_range = grind (arith, nat_tests, in_range.port, in_range.init)

in_place : (nexus : Nexus) (x : ℕ) → is_place nexus x ≡ true → IsNexus nexus × (x < 16)
in_place nexus x e =
    (record { port = grind (arith, nat_tests, e); init = grind (arith, nat_tests, e) }, grind (arith, nat_tests, e))

is_in_place : (nexus : Nexus) (x : ℕ) → IsNexus nexus → x < 16 → is_place nexus x ≡ true
is_in_place nexus x in_range below = grind (arith, nat_tests, in_range.port, in_range.init, below)

places_differ : (a b : Nexus) (x y : ℕ) → IsNexus a → IsNexus b → x < 16 → y < 16 → is_same_place a x b y ≡ false
    → place_in a x ≢ place_in b y
places_differ a b x y in_a in_b in_x in_y differ same =
    let at_a = place_within a in_a in
    let at_b = place_within b in_b in
    let port : a.port ≡ b.port = omega (arith, at_a, at_b, in_a.init, in_b.init, in_x, in_y, same) in
    let init : a.init ≡ b.init = omega (arith, at_a, at_b, in_a.init, in_b.init, in_x, in_y, same) in
    let number : x ≡ y = omega (arith, at_a, at_b, in_a.init, in_b.init, in_x, in_y, same) in
    let equal : is_same_place a x b y ≡ true = rw (port, init, number) (grind (arith, nat_tests)) in
    cc

pub unit_added : (declared : Declared) (nexus : Nexus) (x : ℕ) (unit : LunNo) → HasPlaces declared → IsNexus nexus
    → x < 16 → unit_of (with_unit declared nexus x unit) nexus x ≡ Some unit
unfolding unit_of with_unit
unit_added declared nexus x unit has in_range below =
    ap (λ t. if t then slice_index_or (slice_set declared.units (place_in nexus x) (Some unit)) (place_in nexus x) None else None)
    (is_in_place nexus x in_range below)
    ∙ get_or-set_same declared.units (place_in nexus x) (Some unit) None
    (omega (arith, has.numbers, place_within nexus in_range, in_range.port, in_range.init, below))

pub other_unit : (declared : Declared) (nexus other : Nexus) (x y : ℕ) (unit : LunNo) → IsNexus nexus → x < 16
    → is_same_place other y nexus x ≡ false → unit_of (with_unit declared nexus x unit) other y ≡ unit_of declared other y
unfolding unit_of with_unit
other_unit declared nexus other x y unit in_range below differ = go (is_place other y) refl
  where
    go : (t : Bool) → is_place other y ≡ t
        → (if t then slice_index_or (slice_set declared.units (place_in nexus x) (Some unit)) (place_in other y) None else None)
        ≡ (if t then slice_index_or declared.units (place_in other y) None else None)
    go false e = refl
    go true e =
        let is_in = in_place other y e in
        get_or-set_other declared.units (place_in nexus x) (place_in other y) (Some unit) None
        (places_differ other nexus y x is_in.0 in_range is_in.1 below differ)
