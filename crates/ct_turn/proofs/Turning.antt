-- Each step of a turn keeps its rule.
use Rattle.std.proofs.Common.{◌≡◌, ◌≢◌, ℕ, zero, suc, ◌+◌, ◌<◌, ◌≤◌, eqb, List, [], ◌∷◌, ◌++◌, length, get_or, set, Option, Some, None, IfSome, sym, refl, ap, ◌∙◌, subst, ⊎_elim, ltb, cond, true, false, arith, append_assoc, append-nil, length-append}
use mathlib.Core.Option.{some, none, some-injective, some-ne-none}
use mathlib.Core.Option as maybe
use lib.ListN.{get_elem?}
use prog.Atomic.{either}
use Rattle.std.specs.declared.snapshot.Snapshot.{Snapshot}
use Rattle.atomic_table.specs.Table.{State, Me, Act, step, keeps, takes, gives, rest, Valid, Allows, Splits, Joins, Final, Seen, homes_after, carried_after}
use Rattle.atomic_table.proofs.Lists.{at_set, at_snoc, exchanged}
use Rattle.ct_turn.specs.declared.view.Stage.{Stage}
use Rattle.ct_turn.specs.declared.view.Stage.TheVariants.{Idle, Turned, Out}
use Rattle.ct_turn.specs.declared.view.Slot.{Slot}
use Rattle.ct_turn.specs.declared.view.Slot.TheVariants.{Home, Away, Said}
use Rattle.ct_turn.specs.declared.view.Known.{Known}
use Rattle.ct_turn.specs.Rules.{Place, home, turned, out, word_of, slot_of, Sits, Stands, Fits, Shares, Kept, Ruled, opened}
use Rattle.ct_turn.specs.Seats.{Begins, item, covers, once_below}
use Rattle.ct_turn.specs.Steps.{at_stage, out_with, added, took, fetched, wrote, gave, longer, newcomer, spent, both, settled, learned}
use Rattle.ct_turn.proofs.Sums.{shares_same, shares_more, shares_split, shares_join, own_once, all_own, once_past}

module _ {E : Type 0} where
  pub begins_self : (xs : List E) → Begins xs xs
  begins_self xs = ([], sym (append-nil xs))

  pub begins_trans : (xs ys zs : List E) → Begins xs ys → Begins ys zs → Begins xs zs
  begins_trans xs ys zs h k = (h.0 ++ k.0, k.1 ∙ (ap (λ l. l ++ k.0) h.1 ∙ append_assoc xs h.0 k.0))

  pub begins_length : (xs ys : List E) → Begins xs ys → length xs ≤ length ys
  begins_length xs ys h = let e = ap length h.1 ∙ length-append xs h.0 in omega arith

module _ {O : Type 0} where
  -- what an opening is, seen from the other side
  pub opening_is : (x : Option O) (o p : O) → p ≡ o → IfSome x (λ y. y ≡ o) → IfSome x (λ y. p ≡ y)
  opening_is None o p e h = tt
  opening_is (Some y) o p e h = e ∙ sym h

  pub opening_from : (x : Option O) (o p : O) → x ≡ Some p → IfSome x (λ y. y ≡ o) → p ≡ o
  opening_from x o p e h = subst (λ (z : Option O). IfSome z (λ y. y ≡ o)) e h

module _ {M : Type 0} where
  -- where the seat can take a step of the turn's holder, or take the turn
  abbrev FreeFor : ℕ → Place M → Type 0
  FreeFor id (home m) = Unit {0}
  FreeFor id (turned h m) = h ≡ id
  FreeFor id (out h) = h ≡ id

module _ {M E : Type 0} (log log' : List E) (id j : ℕ) (seen : List E) where
  stands_else : (place place' : Place M) → j ≢ id → FreeFor id place → (st : Stage) → Stands log place j seen st → Stands log' place' j seen st
  stands_else place place' ne free Idle h = tt
  stands_else place place' ne free Turned h = absurd (ne (subst (λ (p : Place M). FreeFor id p) h.1 free))
  stands_else place place' ne free Out h = absurd (ne (subst (λ (p : Place M). FreeFor id p) h.0 free))

module _ (M O E A B : Type 0) (opening : M → O) (journal : M → List E) (o : O) where
  abbrev V : Type 0
  V = Known O E A B

  abbrev S : Type 0
  S = Slot M A B

  abbrev St : Type 0
  St = State S V

  abbrev Rule : St → Type 0
  Rule = Kept opening journal o

  fits_else : (log log' : List E) (place place' : Place M) (id j : ℕ) (v : V) → Begins log log' → j ≢ id → FreeFor id place → Fits o log place j v → Fits o log' place' j v
  fits_else log log' place place' id j v more ne free h = record {
    opening = h.opening;
    seen = begins_trans v.seen log log' h.seen more;
    one = begins_trans v.one log log' h.one more;
    two = begins_trans v.two log log' h.two more;
    told = h.told;
    stage = stands_else log log' id j v.seen place place' ne free v.stage h.stage;
  }

  each_set : (K : ℕ → V → Type 0) (vs : List V) (id : ℕ) (w : V) → K id w → ((j : ℕ) (v : V) → j ≢ id → get_elem? vs j ≡ some v → K j v) → (j : ℕ) (v : V) → get_elem? (set vs id w) j ≡ some v → K j v
  each_set K vs id w mine others j v e = ⊎_elim (λ (t : (j ≡ id) × (w ≡ v)). subst (λ (x : ℕ × V). K x.0 x.1) (λ i. (sym t.0 i, t.1 i)) mine)
      (λ (t : (j ≢ id) × (get_elem? vs j ≡ some v)). others j v t.0 t.1) (at_set vs id j w v e)

  -- what a step owes, at these words and homes
  abbrev Owes : List V → ℕ → List (ℕ × S) → ℕ → (ℕ → ℕ) → (ℕ → Me S V → Type 0) → List ℕ → List (maybe.Option S) → Type 0
  Owes vs id c i f then ws hs = (w : V) × (a : Act S) × Valid hs c a × Rule record { words = set ws i (f (get_or ws i 0)); homes = homes_after hs c a; views = set vs id w } × then (get_or ws i 0) (w, carried_after c a)

  owed_at : (s : St) (id : ℕ) (c : List (ℕ × S)) (i : ℕ) (f : ℕ → ℕ) (then : ℕ → Me S V → Type 0) (ws : List ℕ) (hs : List (maybe.Option S)) → s.words ≡ ws → s.homes ≡ hs → Owes s.views id c i f then ws hs → Owes s.views id c i f then s.words s.homes
  owed_at s id c i f then ws hs p q h = subst (λ (z : List ℕ × List (maybe.Option S)). Owes s.views id c i f then z.0 z.1) (λ k. (sym p k, sym q k)) h

  abbrev Each : List E → Place M → List V → Type 0
  Each log place vs = (id : ℕ) (v : V) → get_elem? vs id ≡ some v → Fits o log place id v

  takes_at : (slots : ℕ) (log : List E) (vs : List V) (id : ℕ) (me : Me S V) → me.0.stage ≡ Idle → me.1 ≡ [] → get_elem? vs id ≡ some me.0 → Shares (length log) vs
      → (place : Place M) → Sits opening journal o log place → Each log place vs
      → Owes vs id me.1 0 (λ n. either (eqb n 0) 1 n) (took (step slots 0 0 1 none) me) (word_of place ∷ length log ∷ []) (slot_of A B place ∷ [])
  takes_at slots log vs id me idle none_held at shares (home m) sits each = let w = at_stage Turned me.0 in let old = each id me.0 at in (
    w,
    keeps,
    tt,
    record {
      place = turned id m;
      log = log;
      words = refl;
      homes = refl;
      machine = sits;
      each = each_set (λ j v. Fits o log (turned id m) j v) vs id w record { opening = old.opening; seen = old.seen; one = old.one; two = old.two; told = old.told; stage = (m, refl) }
          (λ j v ne e. fits_else log log (home m) (turned id m) id j v (begins_self log) ne tt (each j v e));
      shares = shares_same O E A B (length log) vs id me.0 w at refl refl shares;
    },
    (λ _. refl, λ no. absurd (no refl)),
  )
  takes_at slots log vs id me idle none_held at shares (turned h m) sits each = (
    me.0,
    keeps,
    tt,
    record { place = turned h m; log = log; words = refl; homes = refl; machine = sits; each = each_set (λ j v. Fits o log (turned h m) j v) vs id me.0 (each id me.0 at) (λ j v ne e. each j v e); shares = shares_same O E A B (length log) vs id me.0 me.0 at refl refl shares },
    (λ is. absurd (omega arith), λ _. refl),
  )
  takes_at slots log vs id me idle none_held at shares (out h) sits each = (
    me.0,
    keeps,
    tt,
    record { place = out h; log = log; words = refl; homes = refl; machine = tt; each = each_set (λ j v. Fits o log (out h) j v) vs id me.0 (each id me.0 at) (λ j v ne e. each j v e); shares = shares_same O E A B (length log) vs id me.0 me.0 at refl refl shares },
    (λ is. absurd (omega arith), λ _. refl),
  )

  pub takes_turn : (slots id : ℕ) (me : Me S V) → me.0.stage ≡ Idle → me.1 ≡ [] → Allows Rule slots id me 0 (λ n. either (eqb n 0) 1 n) (took (step slots 0 0 1 none) me)
  takes_turn slots id me idle none_held s r wide at below = owed_at s id me.1 0 (λ n. either (eqb n 0) 1 n) (took (step slots 0 0 1 none) me) _ _ r.words r.homes (takes_at slots r.log s.views id me idle none_held at r.shares r.place r.machine r.each)

  fetches_at : (slots : ℕ) (log : List E) (vs : List V) (id : ℕ) (me : Me S V) → me.0.stage ≡ Turned → get_elem? vs id ≡ some me.0 → Shares (length log) vs
      → (place : Place M) → Sits opening journal o log place → Each log place vs → (h : (m : M) × (place ≡ turned id m))
      → Owes vs id me.1 1 (λ n. n) (fetched opening journal (step slots 1 0 0 none) me) (word_of place ∷ length log ∷ []) (slot_of A B place ∷ [])
  fetches_at slots log vs id me stage at shares place sits each h =
      let m : M = h.0 in
      let Q : Place M → Type 0 = λ p. Sits opening journal o log p → Each log p vs → Owes vs id me.1 1 (λ n. n) (fetched opening journal (step slots 1 0 0 none) me) (word_of p ∷ length log ∷ []) (slot_of A B p ∷ []) in
      subst Q (sym h.1) (λ sits each.
      let w : V = out_with (journal m) me.0 in
      let old = each id me.0 at in
      let same : journal m ≡ log = sits.1 in (
        w,
        takes 0 (Home m),
        refl,
        record {
          place = out id;
          log = log;
          words = refl;
          homes = refl;
          machine = tt;
          each = each_set (λ j v. Fits o log (out id) j v) vs id w record { opening = old.opening; seen = ([], sym same ∙ sym (append-nil (journal m))); one = old.one; two = old.two; told = old.told; stage = (refl, same) }
              (λ j v ne e. fits_else log log (turned id m) (out id) id j v (begins_self log) ne refl (each j v e));
          shares = shares_same O E A B (length log) vs id me.0 w at refl refl shares;
        },
        (m, refl, (old.seen.0, same ∙ old.seen.1), opening_is me.0.opening o (opening m) sits.0 old.opening, ap length (sym same)),
      )) sits each

  pub fetches : (slots id : ℕ) (me : Me S V) → me.0.stage ≡ Turned → Allows Rule slots id me 1 (λ n. n) (fetched opening journal (step slots 1 0 0 none) me)
  fetches slots id me stage s r wide at below = let f = r.each id me.0 at in owed_at s id me.1 1 (λ n. n) (fetched opening journal (step slots 1 0 0 none) me) _ _ r.words r.homes
      (fetches_at slots r.log s.views id me stage at r.shares r.place r.machine r.each (subst (λ (k : Stage). Stands r.log r.place id me.0.seen k) stage f.stage))

  writes_at : (slots : ℕ) (log : List E) (vs : List V) (id : ℕ) (me : Me S V) (mach : Snapshot M) (act : Snapshot A) (answer : Snapshot B) → get_elem? vs id ≡ some me.0 → Shares (length log) vs
      → me.0.seen ≡ log → 0 < me.0.parts → Begins me.0.seen (journal mach.value) → Each log (out id) vs
      → (st : Stage) → me.0.stage ≡ Out → (old new : ℕ) → old ≡ length me.0.seen → new ≡ length (journal mach.value)
      → Owes vs id me.1 1 (λ n. either (eqb n old) new n) (wrote journal (step slots 1 old new (some (Said mach act answer))) me) (1 ∷ length log ∷ []) (none ∷ [])
  writes_at slots log vs id me mach act answer at shares seen_is pos more each st stage old new old_is new_is =
      let log' : List E = journal mach.value in
      let w : V = added log' act.value answer.value me.0 in
      let was = each id me.0 at in
      let grows : Begins log log' = subst (λ (l : List E). Begins l log') seen_is more in
      let F : ℕ → Type 0 = λ n. Owes vs id me.1 1 (λ _. n) (wrote journal (step slots 1 old new (some (Said mach act answer))) me) (1 ∷ length log ∷ []) (none ∷ []) in
      exchanged (length log) old new F
      (λ _. (
        w,
        keeps,
        tt,
        record {
          place = out id;
          log = log';
          words = ap (λ (n : ℕ). 1 ∷ n ∷ []) new_is;
          homes = refl;
          machine = tt;
          each = each_set (λ j v. Fits o log' (out id) j v) vs id w
              record { opening = was.opening; seen = begins_self log'; one = begins_trans me.0.one log log' was.one grows; two = begins_trans me.0.two log log' was.two grows; told = was.told; stage = (let same : log' ≡ log' = refl in let here : Stands {M = M} log' (out id) id log' Out = (refl, same) in subst (λ (k : Stage). Stands {M = M} log' (out id) id log' k) (sym stage) here) }
              (λ j v ne e. fits_else log log' (out id) (out id) id j v grows ne refl (each j v e));
          shares = shares_more O E A B (length log) (length log') vs id me.0 w act.value answer.value (begins_length log log' grows) at refl pos
              (ap (λ (l : List E). me.0.own ++ item act.value answer.value (length l) (length log') ∷ []) seen_is) shares;
        },
        (λ mach' act' answer' e. let e' : Said mach act answer ≡ Said mach' act' answer' = some-injective _ _ e in
            let R : Slot M A B → Type 0 = λ z. elim z [ Home m ↦ Unit {0} | Away ↦ Unit {0} | Said m a b ↦ Path (Me S V) (w, me.1) (added (journal m.value) a.value b.value me.0, me.1) ] in
            subst R e' refl),
      ))
      (λ ne. absurd (ne (ap length (sym seen_is) ∙ sym old_is)))

  pub writes : (slots id : ℕ) (me : Me S V) (mach : Snapshot M) (act : Snapshot A) (answer : Snapshot B) (old new : ℕ) → me.0.stage ≡ Out → 0 < me.0.parts → Begins me.0.seen (journal mach.value)
      → old ≡ length me.0.seen → new ≡ length (journal mach.value)
      → Allows Rule slots id me 1 (λ n. either (eqb n old) new n) (wrote journal (step slots 1 old new (some (Said mach act answer))) me)
  writes slots id me mach act answer old new stage pos more old_is new_is s r wide at below =
      let f = r.each id me.0 at in
      let h : (r.place ≡ out id) × (me.0.seen ≡ r.log) = subst (λ (k : Stage). Stands r.log r.place id me.0.seen k) stage f.stage in
      let each : Each r.log (out id) s.views = subst (λ (p : Place M). Each r.log p s.views) h.0 r.each in
      owed_at s id me.1 1 (λ n. either (eqb n old) new n) (wrote journal (step slots 1 old new (some (Said mach act answer))) me) _ _
      (r.words ∙ ap (λ (p : Place M). word_of p ∷ length r.log ∷ []) h.0) (r.homes ∙ ap (λ (p : Place M). slot_of A B p ∷ []) h.0)
      (writes_at slots r.log s.views id me mach act answer at r.shares h.1 pos more each me.0.stage stage old new old_is new_is)

  pub gives_back : (slots id : ℕ) (me : Me S V) (m : M) → me.0.stage ≡ Out → me.1 ≡ (0, Home m) ∷ [] → me.0.opening ≡ Some (opening m) → journal m ≡ me.0.seen
      → Allows Rule slots id me 0 (λ _. 0) (λ _. gave (step slots 0 0 0 none) me 0)
  gives_back slots id me m stage held opens same s r wide at below =
      let f = r.each id me.0 at in
      let h : (r.place ≡ out id) × (me.0.seen ≡ r.log) = subst (λ (k : Stage). Stands r.log r.place id me.0.seen k) stage f.stage in
      let each : Each r.log (out id) s.views = subst (λ (p : Place M). Each r.log p s.views) h.0 r.each in
      let w : V = at_stage Idle me.0 in
      let was = each id me.0 at in
      let log : List E = r.log in
      owed_at s id me.1 0 (λ _. 0) (λ _. gave (step slots 0 0 0 none) me 0) _ _
      (r.words ∙ ap (λ (p : Place M). word_of p ∷ length r.log ∷ []) h.0) (r.homes ∙ ap (λ (p : Place M). slot_of A B p ∷ []) h.0)
      (subst (λ (c : List (ℕ × S)). Owes s.views id c 0 (λ _. 0) (λ _ m'. m' ≡ (w, rest c)) (1 ∷ length log ∷ []) (none ∷ [])) (sym held) (
        w,
        gives,
        tt,
        record {
          place = home m;
          log = log;
          words = refl;
          homes = refl;
          machine = (opening_from me.0.opening o (opening m) opens was.opening, same ∙ h.1);
          each = each_set (λ j v. Fits o log (home m) j v) s.views id w record { opening = was.opening; seen = was.seen; one = was.one; two = was.two; told = was.told; stage = tt }
              (λ j v ne e. fits_else log log (out id) (home m) id j v (begins_self log) ne refl (each j v e));
          shares = shares_same O E A B (length log) s.views id me.0 w at refl refl r.shares;
        },
        refl,
      ))

  -- a seat is cut in two, whatever parts the new one gets
  pub splits : (id n m : ℕ) (v : V) → m + n ≡ v.parts → (m ≡ 0 → v.own ≡ []) → Splits Rule id v (record v { parts = m }) (newcomer n v)
  splits id n m v sum some_left s r at =
      let l : V = record v { parts = m } in
      let w : V = newcomer n v in
      let was = r.each id v at in
      record {
        place = r.place;
        log = r.log;
        words = r.words;
        homes = r.homes;
        machine = r.machine;
        each = λ j x e. ⊎_elim
            (each_set (λ j v. Fits o r.log r.place j v) s.views id l record { opening = was.opening; seen = was.seen; one = was.one; two = was.two; told = was.told; stage = was.stage } (λ j v ne e. r.each j v e) j x)
            (λ (t : w ≡ x). subst (λ (y : V). Fits o r.log r.place j y) t record { opening = was.opening; seen = was.seen; one = (r.log, refl); two = (r.log, refl); told = tt; stage = tt })
            (at_snoc (set s.views id l) w x j e);
        shares = shares_split O E A B (length r.log) s.views id v l w at sum refl some_left refl r.shares;
      }

  begins_longer : (xs ys log : List E) → Begins xs log → Begins ys log → Begins (longer xs ys) log
  begins_longer xs ys log h k = elim (ltb (length xs) (length ys)) as (λ b. Begins (cond b ys xs) log) [ true ↦ k | false ↦ h ]

  pub joins : (id : ℕ) (v : V) (other : ℕ) (w : V) → v.stage ≡ Idle → Joins Rule id v other w (both v w) spent
  joins id v other w idle s r at apart there =
      let b : V = both v w in
      let was = r.each id v at in
      let at' : get_elem? s.views other ≡ some w = ⊎_elim (λ (t : (other ≡ id) × (b ≡ w)). absurd (apart t.0)) (λ (t : (other ≢ id) × (get_elem? s.views other ≡ some w)). t.1) (at_set s.views id other b w there) in
      let its = r.each other w at' in
      record {
        place = r.place;
        log = r.log;
        words = r.words;
        homes = r.homes;
        machine = r.machine;
        each = each_set (λ j x. Fits o r.log r.place j x) (set s.views id b) other spent record { opening = tt; seen = (r.log, refl); one = (r.log, refl); two = (r.log, refl); told = tt; stage = tt }
            (λ j x ne e. each_set (λ j x. Fits o r.log r.place j x) s.views id b
            record { opening = was.opening; seen = begins_longer v.seen w.seen r.log was.seen its.seen; one = was.seen; two = its.seen; told = its.opening; stage = subst (λ (k : Stage). Stands {M = M} r.log r.place id b.seen k) (sym idle) tt }
            (λ j x ne e. r.each j x e) j x e);
        shares = shares_join O E A B (length r.log) s.views id other v w b spent at at' there refl refl refl refl r.shares;
      }

  pub learns : (slots id : ℕ) (me : Me S V) → me.0.stage ≡ Idle → Allows Rule slots id me 1 (λ n. n) (learned (step slots 1 0 0 none) me)
  learns slots id me stage s r wide at below =
      let w : V = settled me.0 in
      let was = r.each id me.0 at in
      owed_at s id me.1 1 (λ n. n) (learned (step slots 1 0 0 none) me) _ _ r.words r.homes (
        w,
        keeps,
        tt,
        record {
          place = r.place;
          log = r.log;
          words = refl;
          homes = refl;
          machine = r.machine;
          each = each_set (λ j v. Fits o r.log r.place j v) s.views id w record { opening = was.opening; seen = was.seen; one = (r.log, refl); two = (r.log, refl); told = tt; stage = was.stage } (λ j v ne e. r.each j v e);
          shares = shares_same O E A B (length r.log) s.views id me.0 w at refl refl r.shares;
        },
        (refl, (o, r.log, was.opening, was.told, was.seen, was.one, was.two, own_once O E A B (length r.log) s.views id me.0 at r.shares)),
      )

  -- what a seat that has the turn knows of the table's last state
  pub closes : (id : ℕ) (v : V) (ws : List ℕ) (xs : List S) → v.stage ≡ Turned → Final (Seen Rule id v) ws xs
      → (m : M) × (get_elem? xs 0 ≡ some (Home m)) × IfSome v.opening (λ x. opening m ≡ x) × Begins v.seen (journal m) × (v.parts ≡ 4096 → (k : ℕ) → covers k v.own ≡ once_below k (length (journal m)))
  closes id v ws xs stage (s, (r, at), same, long, found) =
      let was = r.each id v at in
      let h : (m : M) × (r.place ≡ turned id m) = subst (λ (k : Stage). Stands r.log r.place id v.seen k) stage was.stage in
      let m : M = h.0 in
      let sits : Sits opening journal o r.log (turned id m) = subst (λ (p : Place M). Sits opening journal o r.log p) h.1 r.machine in
      let homes : s.homes ≡ some (Home m) ∷ [] = r.homes ∙ ap (λ (p : Place M). slot_of A B p ∷ []) h.1 in (
        m,
        found 0 (Home m) (ap (λ (l : List (maybe.Option S)). get_elem? l 0) homes),
        opening_is v.opening o (opening m) sits.0 was.opening,
        subst (λ (l : List E). Begins v.seen l) (sym sits.1) was.seen,
        λ all k. all_own O E A B (length r.log) s.views id v at all r.shares k ∙ ap (λ (l : List E). once_below k (length l)) (sym sits.1),
      )

module _ {V : Type 0} where
  only_view : (K : V → Type 0) (w : V) → K w → (j : ℕ) (v : V) → get_elem? (w ∷ []) j ≡ some v → K v
  only_view K w h zero v e = subst K (some-injective w v e) h
  only_view K w h (suc j) v e = absurd (some-ne-none v (sym e))

module _ {M O E A B : Type 0} (opening : M → O) (journal : M → List E) where
  -- the table begins with a machine that has made no act
  pub opens : (m : M) → journal m ≡ [] → Kept {M = M} {O = O} {E = E} {A = A} {B = B} opening journal (opening m) record { words = 0 ∷ 0 ∷ []; homes = some (Home m) ∷ []; views = opened (opening m) ∷ [] }
  opens m unused = record {
    place = home m;
    log = [];
    words = refl;
    homes = refl;
    machine = (refl, unused);
    each = λ j v e. only_view (λ v. Fits (opening m) [] (home m) j v) (opened (opening m)) record { opening = refl; seen = ([], refl); one = ([], refl); two = ([], refl); told = tt; stage = tt } j v e;
    shares = record { parts = refl; idle = only_view (λ v. v.parts ≡ 0 → v.own ≡ []) (opened (opening m)) (λ z. refl); counts = λ k. sym (once_past k 0 (omega arith)) };
  }

-- the same where the opening is any
module _ (M O E A B : Type 0) (opening : M → O) (journal : M → List E) where
  abbrev V' : Type 0
  V' = Known O E A B

  abbrev S' : Type 0
  S' = Slot M A B

  abbrev Rule' : State S' V' → Type 0
  Rule' = Ruled opening journal

  allows_any : (slots id : ℕ) (me : Me S' V') (i : ℕ) (f : ℕ → ℕ) (then : ℕ → Me S' V' → Type 0) → ((o : O) → Allows (Kept opening journal o) slots id me i f then) → Allows Rule' slots id me i f then
  allows_any slots id me i f then h s (o, r) wide at below = let t = h o s r wide at below in (t.0, t.1, t.2, (o, t.3), t.4)

  pub takes_turn_any : (slots id : ℕ) (me : Me S' V') → me.0.stage ≡ Idle → me.1 ≡ [] → Allows Rule' slots id me 0 (λ n. either (eqb n 0) 1 n) (took (step slots 0 0 1 none) me)
  takes_turn_any slots id me idle none_held = allows_any slots id me 0 (λ n. either (eqb n 0) 1 n) (took (step slots 0 0 1 none) me) (λ o. takes_turn M O E A B opening journal o slots id me idle none_held)

  pub fetches_any : (slots id : ℕ) (me : Me S' V') → me.0.stage ≡ Turned → Allows Rule' slots id me 1 (λ n. n) (fetched opening journal (step slots 1 0 0 none) me)
  fetches_any slots id me stage = allows_any slots id me 1 (λ n. n) (fetched opening journal (step slots 1 0 0 none) me) (λ o. fetches M O E A B opening journal o slots id me stage)

  pub writes_any : (slots id : ℕ) (me : Me S' V') (mach : Snapshot M) (act : Snapshot A) (answer : Snapshot B) (old new : ℕ) → me.0.stage ≡ Out → 0 < me.0.parts → Begins me.0.seen (journal mach.value)
      → old ≡ length me.0.seen → new ≡ length (journal mach.value)
      → Allows Rule' slots id me 1 (λ n. either (eqb n old) new n) (wrote journal (step slots 1 old new (some (Said mach act answer))) me)
  writes_any slots id me mach act answer old new stage pos more old_is new_is = allows_any slots id me 1 (λ n. either (eqb n old) new n) (wrote journal (step slots 1 old new (some (Said mach act answer))) me)
      (λ o. writes M O E A B opening journal o slots id me mach act answer old new stage pos more old_is new_is)

  pub gives_back_any : (slots id : ℕ) (me : Me S' V') (m : M) → me.0.stage ≡ Out → me.1 ≡ (0, Home m) ∷ [] → me.0.opening ≡ Some (opening m) → journal m ≡ me.0.seen
      → Allows Rule' slots id me 0 (λ _. 0) (λ _. gave (step slots 0 0 0 none) me 0)
  gives_back_any slots id me m stage held opens same = allows_any slots id me 0 (λ _. 0) (λ _. gave (step slots 0 0 0 none) me 0) (λ o. gives_back M O E A B opening journal o slots id me m stage held opens same)

  pub learns_any : (slots id : ℕ) (me : Me S' V') → me.0.stage ≡ Idle → Allows Rule' slots id me 1 (λ n. n) (learned (step slots 1 0 0 none) me)
  learns_any slots id me stage = allows_any slots id me 1 (λ n. n) (learned (step slots 1 0 0 none) me) (λ o. learns M O E A B opening journal o slots id me stage)

  pub splits_any : (id n m : ℕ) (v : V') → m + n ≡ v.parts → (m ≡ 0 → v.own ≡ []) → Splits Rule' id v (record v { parts = m }) (newcomer n v)
  splits_any id n m v sum some_left s (o, r) at = (o, splits M O E A B opening journal o id n m v sum some_left s r at)

  pub joins_any : (id : ℕ) (v : V') (other : ℕ) (w : V') → v.stage ≡ Idle → Joins Rule' id v other w (both v w) spent
  joins_any id v other w idle s (o, r) at apart there = (o, joins M O E A B opening journal o id v other w idle s r at apart there)

  pub closes_any : (id : ℕ) (v : V') (ws : List ℕ) (xs : List S') → v.stage ≡ Turned → Final (Seen Rule' id v) ws xs
      → (m : M) × (get_elem? xs 0 ≡ some (Home m)) × IfSome v.opening (λ x. opening m ≡ x) × Begins v.seen (journal m) × (v.parts ≡ 4096 → (k : ℕ) → covers k v.own ≡ once_below k (length (journal m)))
  closes_any id v ws xs stage (s, ((o, r), at), same, long, found) = closes M O E A B opening journal o id v ws xs stage (s, (r, at), same, long, found)

module _ {M A B : Type 0} where
  pub home_injective : (m n : M) → Path (Slot M A B) (Home m) (Home n) → m ≡ n
  home_injective m n e = cc

module _ {S : Type 0} where
  abbrev top_of : S → List (ℕ × S) → S
  top_of d [] = d
  top_of d (x ∷ xs) = x.1

  -- one list of slots has one first slot
  pub same_top : (c r r' : List (ℕ × S)) (x y : S) → c ≡ (0, x) ∷ r → c ≡ (0, y) ∷ r' → x ≡ y
  same_top c r r' x y e f = ap (top_of x) (sym e ∙ f)
