use Rattle.std.proofs.Common.{◌≡◌, ℕ, ◌+◌, ◌-◌, List, [], ◌∷◌, ◌++◌, replicate, ap, ◌∙◌, arith}
use Rattle.ct_word.specs.Kept.{Kept}
use Rattle.ct_medium.specs.Places.{blocks_at}
use Rattle.ct_medium.proofs.Places.{all_equal, placed_at_open}
use Rattle.ct_medium.proofs.ram.Ram.open.Goals as goal

-- the list with its block of zeros alone
opened : (list list' : Kept (List ℕ)) (blocks : ℕ) (block : List ℕ) → list ≡ record { items = []; room = blocks + 1 }
    → list' ≡ record { items = list.items ++ block ∷ []; room = list.room - 1 } → block ≡ replicate 512 0
    → list' ≡ record { items = replicate 512 0 ∷ []; room = blocks }
opened list list' blocks block empty pushed zeros = rw (pushed, empty, zeros)
    (ap (λ (room : ℕ). record { items = replicate 512 0 ∷ []; room = room }) (omega arith))

pub invariant_of-result : goal.invariant_of-result
invariant_of-result c =
    let blocks = c.args.blocks in
    let list : c.push.new.self ≡ record { items = replicate 512 0 ∷ []; room = blocks } =
    opened _ _ blocks _ c.in_ok-list.ensures c.push.ensures c.zeros.ensures in
    rw (c.in_ok-places.ensures.items_if_clones_equal (λ y same. same))
    (placed_at_open blocks c.push.new.self c.ranges.blocks.fits (ap (λ (l : Kept (List ℕ)). l.items) list)
    (ap (λ (l : Kept (List ℕ)). l.room) list))

pub returns : goal.returns
returns c =
    let blocks = c.args.blocks in
    let list : c.push.new.self ≡ record { items = replicate 512 0 ∷ []; room = blocks } =
    opened _ _ blocks _ c.in_ok-list.ensures c.push.ensures c.zeros.ensures in
    ap (λ (l : Kept (List ℕ)). blocks_at c.in_ok-places.places.items l.items) list
    ∙ ap (λ (places : List ℕ). blocks_at places (replicate 512 0 ∷ []))
    (c.in_ok-places.ensures.items_if_clones_equal (λ y same. same))
    ∙ all_equal blocks (replicate 512 0)
