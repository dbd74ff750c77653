-- Lines that set up come first, and hold all the names.
use Rattle.std.proofs.Common.{◌≡◌, ℕ, suc, ◌+◌, ◌≤◌, Bool, true, false, ◌&&◌, ◌||◌, not, List, [], ◌∷◌, ◌++◌, length, take, drop, refl, sym, ap, ◌∙◌, arith, nat_lt, length-append}
use Rattle.std.specs.List.{list_any, list_all}
use Rattle.std.proofs.lemmas.Bool.{lt-ltb}
use Rattle.std.proofs.lemmas.List.{take-append-drop, take-append-le, drop-append-le, length-drop, take_all, drop_all}
use Rattle.std.proofs.lemmas.List.Folds.{list_any-append, list_all-append}
use Rattle.std.proofs.lemmas.Bool.Decides.{nat_tests}
use Rattle.ct_script.specs.declared.script.Line.{Line}
use Rattle.ct_script.specs.declared.script.Word.{Word}
use Rattle.ct_script.specs.declared.script.Word.TheVariants.{Lun, Port, Map, Cmd, Task, Step, Drain, Sync}
use Rattle.ct_script.specs.Rules.{acts, word_acts, declares_lun, declares_port, maps, word_declares_lun, word_declares_port, word_maps, is_misnamed_by, is_misnamed, SetUpFirst}

-- no line that acts passes a test of lines that set up
none_pass : (p : Line → Bool) → ((line : Line) → acts line ≡ true → p line ≡ false) → (lines : List Line) → list_all acts lines ≡ true → list_any p lines ≡ false
none_pass p f [] all = refl
none_pass p f (line ∷ lines) all = go (acts line) refl all (none_pass p f lines)
  where
    go : (t : Bool) → acts line ≡ t → (t && list_all acts lines) ≡ true → (list_all acts lines ≡ true → list_any p lines ≡ false) → (p line || list_any p lines) ≡ false
    go true e all rec = ap (λ t. t || list_any p lines) (f line e) ∙ rec all
    go false e all rec = absurd (cc)

-- a test of lines that set up looks at the first of them alone
looks_first : (p : Line → Bool) → ((line : Line) → acts line ≡ true → p line ≡ false) → (settings : ℕ) (lines : List Line) → list_all acts (drop settings lines) ≡ true → list_any p (take settings lines) ≡ list_any p lines
looks_first p f settings lines all =
    or_false (list_any p (take settings lines)) (list_any p (drop settings lines)) (none_pass p f (drop settings lines) all)
    ∙ sym (list_any-append p (take settings lines) (drop settings lines))
    ∙ ap (list_any p) (take-append-drop settings lines)
  where
    or_false : (a b : Bool) → b ≡ false → a ≡ (a || b)
    or_false true b e = refl
    or_false false b e = sym e

some : (n : ℕ) → true ≡ nat_lt 0 (suc n)
some n = sym (lt-ltb 0 (suc n) (omega arith))

some_act : (lines : List Line) → list_all acts lines ≡ true → list_any acts lines ≡ nat_lt 0 (length lines)
some_act [] all = refl
some_act (line ∷ lines) all = go (acts line) all
  where
    go : (t : Bool) → (t && list_all acts lines) ≡ true → (t || list_any acts lines) ≡ nat_lt 0 (suc (length lines))
    go true all = some (length lines)
    go false all = absurd (cc)

acted : (settings : ℕ) (lines : List Line) → settings ≤ length lines → list_all acts (drop settings lines) ≡ true → list_any acts (take settings lines) ≡ false → nat_lt settings (length lines) ≡ list_any acts lines
acted settings lines few all quiet =
    let left = length-drop settings lines in
    let e : nat_lt settings (length lines) ≡ nat_lt 0 (length (drop settings lines)) = grind (arith, nat_tests) in
    e
    ∙ sym (some_act (drop settings lines) all)
    ∙ ap (λ t. t || list_any acts (drop settings lines)) (sym quiet)
    ∙ sym (list_any-append acts (take settings lines) (drop settings lines))
    ∙ ap (list_any acts) (take-append-drop settings lines)

lun_set : (lun : _) (line : Line) → acts line ≡ true → declares_lun lun line ≡ false
lun_set lun line = go line.word
  where
    go : (word : Word) → word_acts word ≡ true → word_declares_lun lun word ≡ false
    go (Lun l blocks sizes) e = absurd (cc)
    go (Port port node) e = refl
    go (Map n x l) e = refl
    go (Cmd n x tag attr cdb out) e = refl
    go (Task n y function) e = refl
    go (Step l number blocks) e = refl
    go (Drain l) e = refl
    go Sync e = refl

port_set : (port : ℕ) (line : Line) → acts line ≡ true → declares_port port line ≡ false
port_set port line = go line.word
  where
    go : (word : Word) → word_acts word ≡ true → word_declares_port port word ≡ false
    go (Lun l blocks sizes) e = refl
    go (Port p node) e = absurd (cc)
    go (Map n x l) e = refl
    go (Cmd n x tag attr cdb out) e = refl
    go (Task n y function) e = refl
    go (Step l number blocks) e = refl
    go (Drain l) e = refl
    go Sync e = refl

map_set : (nexus : _) (x : ℕ) (line : Line) → acts line ≡ true → maps nexus x line ≡ false
map_set nexus x line = go line.word
  where
    go : (word : Word) → word_acts word ≡ true → word_maps nexus x word ≡ false
    go (Lun l blocks sizes) e = refl
    go (Port port node) e = refl
    go (Map n y l) e = absurd (cc)
    go (Cmd n y tag attr cdb out) e = refl
    go (Task n y function) e = refl
    go (Step l number blocks) e = refl
    go (Drain l) e = refl
    go Sync e = refl

-- what is misnamed behind the lines that set up, and by whether any acted, is misnamed behind all
pub named_first : (lines : List Line) (settings : ℕ) (word : Word) → SetUpFirst lines settings →
    is_misnamed_by (nat_lt settings (length lines)) (take settings lines) word ≡ is_misnamed lines word
named_first lines settings word h = go word
  where
    a : nat_lt settings (length lines) ≡ list_any acts lines
    a = acted settings lines h.few h.acting h.quiet

    luns : (lun : _) → list_any (declares_lun lun) (take settings lines) ≡ list_any (declares_lun lun) lines
    luns lun = looks_first (declares_lun lun) (lun_set lun) settings lines h.acting

    ports : (port : ℕ) → list_any (declares_port port) (take settings lines) ≡ list_any (declares_port port) lines
    ports port = looks_first (declares_port port) (port_set port) settings lines h.acting

    mapped : (nexus : _) (x : ℕ) → list_any (maps nexus x) (take settings lines) ≡ list_any (maps nexus x) lines
    mapped nexus x = looks_first (maps nexus x) (map_set nexus x) settings lines h.acting

    go : (word : Word) → is_misnamed_by (nat_lt settings (length lines)) (take settings lines) word ≡ is_misnamed lines word
    go (Lun lun blocks sizes) = ap (λ t. t || list_any (declares_lun lun) (take settings lines)) a ∙ ap (λ t. list_any acts lines || t) (luns lun)
    go (Port port node) = ap (λ t. t || list_any (declares_port port) (take settings lines)) a ∙ ap (λ t. list_any acts lines || t) (ports port)
    go (Map n x lun) =
        ap (λ t. t || not (list_any (declares_port n.port) (take settings lines)) || not (list_any (declares_lun lun) (take settings lines)) || list_any (maps n x) (take settings lines)) a
        ∙ ap (λ t. list_any acts lines || not t || not (list_any (declares_lun lun) (take settings lines)) || list_any (maps n x) (take settings lines)) (ports n.port)
        ∙ ap (λ t. list_any acts lines || not (list_any (declares_port n.port) lines) || not t || list_any (maps n x) (take settings lines)) (luns lun)
        ∙ ap (λ t. list_any acts lines || not (list_any (declares_port n.port) lines) || not (list_any (declares_lun lun) lines) || t) (mapped n x)
    go (Cmd n x tag attr cdb out) =
        ap (λ t. not t || not (list_any (maps n x) (take settings lines))) (ports n.port)
        ∙ ap (λ t. not (list_any (declares_port n.port) lines) || not t) (mapped n x)
    go (Task n x function) =
        ap (λ t. not t || not (list_any (maps n x) (take settings lines))) (ports n.port)
        ∙ ap (λ t. not (list_any (declares_port n.port) lines) || not t) (mapped n x)
    go (Step lun number blocks) = ap not (luns lun)
    go (Drain lun) = ap not (luns lun)
    go Sync = refl

-- one more line

acts_more : (settings : ℕ) (lines : List Line) (line : Line) → settings ≤ length lines → list_all acts (drop settings lines) ≡ true → acts line ≡ true → list_all acts (drop settings (lines ++ line ∷ [])) ≡ true
acts_more settings lines line few all e =
    ap (list_all acts) (drop-append-le settings lines (line ∷ []) few)
    ∙ list_all-append acts (drop settings lines) (line ∷ [])
    ∙ ap (λ t. t && (acts line && true)) all ∙ ap (λ t. t && true) e

quiet_more : (settings : ℕ) (lines : List Line) (line : Line) → settings ≤ length lines → list_any acts (take settings lines) ≡ false → list_any acts (take settings (lines ++ line ∷ [])) ≡ false
quiet_more settings lines line few quiet = ap (list_any acts) (take-append-le settings lines (line ∷ []) few) ∙ quiet

-- a line that sets up stands behind none that acts
or_left_false : (a b : Bool) → (a || b) ≡ false → a ≡ false
or_left_false true b h = absurd (cc)
or_left_false false b h = refl

pub none_acted : (lines : List Line) (word : Word) → is_misnamed lines word ≡ false → word_acts word ≡ false → list_any acts lines ≡ false
none_acted lines (Lun lun blocks sizes) h e = or_left_false (list_any acts lines) _ h
none_acted lines (Port port node) h e = or_left_false (list_any acts lines) _ h
none_acted lines (Map n x lun) h e =
    or_left_false (list_any acts lines) _ (or_left_false (list_any acts lines || not (list_any (declares_port n.port) lines)) _ (or_left_false (list_any acts lines || not (list_any (declares_port n.port) lines) || not (list_any (declares_lun lun) lines)) _ h))
none_acted lines (Cmd n x tag attr cdb out) h e = absurd (cc)
none_acted lines (Task n x function) h e = absurd (cc)
none_acted lines (Step lun number blocks) h e = absurd (cc)
none_acted lines (Drain lun) h e = absurd (cc)
none_acted lines Sync h e = absurd (cc)

pub set_up_acts : (lines : List Line) (line : Line) (settings : ℕ) → SetUpFirst lines settings → acts line ≡ true → SetUpFirst (lines ++ line ∷ []) settings
set_up_acts lines line settings h e = record {
  few = let size = length-append lines (line ∷ []) in omega (arith, h.few, size);
  quiet = quiet_more settings lines line h.few h.quiet;
  acting = acts_more settings lines line h.few h.acting e;
}

pub set_up_more : (lines : List Line) (line : Line) (settings : ℕ) → SetUpFirst lines settings → is_misnamed lines line.word ≡ false → acts line ≡ false → SetUpFirst (lines ++ line ∷ []) (length lines + 1)
set_up_more lines line settings h named e = record {
  few = let size = length-append lines (line ∷ []) in omega (arith, size);
  quiet =
      ap (list_any acts) (take_all (length lines + 1) (lines ++ line ∷ []) (let size = length-append lines (line ∷ []) in omega (arith, size)))
      ∙ list_any-append acts lines (line ∷ []) ∙ ap (λ t. t || (acts line || false)) (none_acted lines line.word named e) ∙ ap (λ t. t || false) e;
  acting = ap (list_all acts) (drop_all (length lines + 1) (lines ++ line ∷ []) (let size = length-append lines (line ∷ []) in omega (arith, size)));
}
