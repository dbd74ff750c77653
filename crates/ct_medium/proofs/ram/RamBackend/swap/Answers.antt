use Rattle.std.proofs.Common.{◌≡◌, ℕ, ◌<◌, List, [], length, set, get_or, sym, ap, ◌∙◌}
use Rattle.std.proofs.lemmas.Option.{get_or_from_slice_get}
use Rattle.ct_medium.specs.Places.{place_of, blocks_at}
use Rattle.ct_medium.proofs.Places.{has_place, at_place, block_at, placed_after_push, blocks_after_push}
use Rattle.ct_medium.proofs.Places.{blocks_after_set}
use Rattle.ct_medium.proofs.ram.RamBackend.swap.Goals as goal

pub invariant_of-self : goal.invariant_of-self
invariant_of-self c =
    let places = c.self.inside.places.items in
    let list = c.self.inside.list in
    let within : c.args.lba < length places = has_place _ places list.items c.args.lba c.self.view_is c.requires in
    let first : place_of places c.args.lba ≡ 0 =
    at_place places c.args.lba _ within c.index.ensures ∙ c.if-place-eq0.true in
    rw c.len.ensures (placed_after_push places list c.push.new.self c.args.lba c.bytes.result.now c.self.invariant
    within first c.push.ensures)

pub returns-then-place-eq0-clause-put : goal.returns-then-place-eq0-clause-put
returns-then-place-eq0-clause-put c =
    let places = c.self.inside.places.items in
    let list = c.self.inside.list in
    let within : c.args.lba < length places = has_place _ places list.items c.args.lba c.self.view_is c.requires in
    let first : place_of places c.args.lba ≡ 0 =
    at_place places c.args.lba _ within c.index.ensures ∙ c.if-place-eq0.true in
    ap (λ (place : ℕ). blocks_at (set places c.args.lba place) c.push.new.self.items) c.len.ensures
    ∙ blocks_after_push places list c.push.new.self c.args.lba c.bytes.result.now c.self.invariant within first
    c.push.ensures
    ∙ ap (λ (block : List ℕ). set (blocks_at places list.items) c.args.lba block) c.bytes.ensures
    ∙ ap (λ (blocks : List (List ℕ)). set blocks c.args.lba c.args.block.now) c.self.view_is

pub returns-else-place-eq0-clause-put : goal.returns-else-place-eq0-clause-put
returns-else-place-eq0-clause-put c =
    let places = c.self.inside.places.items in
    let list = c.self.inside.list in
    let within : c.args.lba < length places = has_place _ places list.items c.args.lba c.self.view_is c.requires in
    let at : place_of places c.args.lba ≡ c.index.result.now =
    at_place places c.args.lba _ within c.index.ensures in
    blocks_after_set places list (record list { items = set list.items c.index.result.now c.swap.new.x }) c.args.lba
    c.swap.new.x c.self.invariant within (λ zero. c.if-place-eq0.false (sym at ∙ zero))
    (ap (λ (place : ℕ). record list { items = set list.items place c.swap.new.x }) (sym at))
    ∙ ap (λ (block : List ℕ). set (blocks_at places list.items) c.args.lba block)
    (c.swap.ensures.x_after ∙ c.bytes_mut.ensures.value)
    ∙ ap (λ (blocks : List (List ℕ)). set blocks c.args.lba c.args.block.now) c.self.view_is

pub returns-else-place-eq0-clause-given : goal.returns-else-place-eq0-clause-given
returns-else-place-eq0-clause-given c =
    let places = c.self.inside.places.items in
    let list = c.self.inside.list in
    let within : c.args.lba < length places = has_place _ places list.items c.args.lba c.self.view_is c.requires in
    let at : place_of places c.args.lba ≡ c.index.result.now =
    at_place places c.args.lba _ within c.index.ensures in
    c.swap.ensures.y_after ∙ sym (get_or_from_slice_get list.items c.index.result.now _ [] c.item_mut.ensures.value)
    ∙ ap (λ place. get_or list.items place []) (sym at) ∙ sym (block_at places list.items c.args.lba within)
    ∙ ap (λ blocks. get_or blocks c.args.lba []) c.self.view_is
