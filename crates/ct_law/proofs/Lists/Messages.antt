-- Messages on their way, by kind and number.
use Rattle.std.proofs.Common.{◌≡◌, ℕ, ◌⊎◌, inl, inr, Bool, true, false, List, [], ◌∷◌, ◌++◌, refl, sym, ⊎_elim}
use Rattle.std.proofs.lemmas.Bool.{both_ways}
use Rattle.ct_book.specs.declared.event.Kind2.{Kind2}
use Rattle.ct_book.specs.declared.event.Kind2.TheVariants as kind
use Rattle.ct_machine.specs.States.{Message}

-- a work that is on its way to A
abbrev pub is_arrival : Kind2 → Bool
is_arrival kind.Ask = true
is_arrival kind.Function = true
is_arrival kind.Finish = false
is_arrival kind.Stopped = false
is_arrival kind.Grant = false
is_arrival kind.Stop = false
is_arrival kind.Reply = false
is_arrival kind.Response = false

-- that a command is over at B
abbrev pub is_end : Kind2 → Bool
is_end kind.Finish = true
is_end kind.Stopped = true
is_end kind.Ask = false
is_end kind.Function = false
is_end kind.Grant = false
is_end kind.Stop = false
is_end kind.Reply = false
is_end kind.Response = false

abbrev pub is_grant : Kind2 → Bool
is_grant kind.Grant = true
is_grant kind.Ask = false
is_grant kind.Function = false
is_grant kind.Finish = false
is_grant kind.Stopped = false
is_grant kind.Stop = false
is_grant kind.Reply = false
is_grant kind.Response = false

abbrev pub is_stop : Kind2 → Bool
is_stop kind.Stop = true
is_stop kind.Ask = false
is_stop kind.Function = false
is_stop kind.Finish = false
is_stop kind.Stopped = false
is_stop kind.Grant = false
is_stop kind.Reply = false
is_stop kind.Response = false

-- a message of such a kind is about the number
abbrev pub Sent : (Kind2 → Bool) → ℕ → List Message → Type 0
Sent p n [] = ⊥
Sent p n (m ∷ ms) = ((p m.kind ≡ true) × (m.no ≡ n)) ⊎ Sent p n ms

-- a stop of the command by the function
abbrev pub IsStop : ℕ → ℕ → List Message → Type 0
IsStop n f [] = ⊥
IsStop n f (m ∷ ms) = ((is_stop m.kind ≡ true) × (m.no ≡ n) × (m.by ≡ f)) ⊎ IsStop n f ms

-- no number comes twice
abbrev pub Once : List Message → Type 0
Once [] = Unit {0}
Once (m ∷ ms) = (is_arrival m.kind ≡ true → Sent is_arrival m.no ms → ⊥) × Once ms

pub sent_push : (p : Kind2 → Bool) (n : ℕ) (ms : List Message) (m : Message) → Sent p n (ms ++ m ∷ []) →
    Sent p n ms ⊎ ((p m.kind ≡ true) × (m.no ≡ n))
sent_push p n [] m (inl h) = inr h
sent_push p n [] m (inr h) = absurd h
sent_push p n (k ∷ ms) m (inl h) = inl (inl h)
sent_push p n (k ∷ ms) m (inr h) = ⊎_elim (λ (r : Sent p n ms). inl (inr r)) inr (sent_push p n ms m h)

pub push_sent : (p : Kind2 → Bool) (n : ℕ) (ms : List Message) (m : Message) → Sent p n ms → Sent p n (ms ++ m ∷ [])
push_sent p n [] m h = absurd h
push_sent p n (k ∷ ms) m (inl h) = inl h
push_sent p n (k ∷ ms) m (inr h) = inr (push_sent p n ms m h)

pub push_last : (p : Kind2 → Bool) (ms : List Message) (m : Message) → p m.kind ≡ true → Sent p m.no (ms ++ m ∷ [])
push_last p [] m e = inl (e, refl)
push_last p (k ∷ ms) m e = inr (push_last p ms m e)

-- a message of another kind
pub sent_other : (p : Kind2 → Bool) (n : ℕ) (ms : List Message) (m : Message) → p m.kind ≡ false →
    Sent p n (ms ++ m ∷ []) → Sent p n ms
sent_other p n ms m e h =
    ⊎_elim (λ k. k) (λ (k : (p m.kind ≡ true) × (m.no ≡ n)). absurd (both_ways (p m.kind) e k.0)) (sent_push p n ms m h)

pub once_push : (ms : List Message) (m : Message) → (is_arrival m.kind ≡ true → Sent is_arrival m.no ms → ⊥) → Once ms →
    Once (ms ++ m ∷ [])
once_push [] m f h = (λ e k. k, tt)
once_push (k ∷ ms) m f h = (
  λ e s. ⊎_elim (h.0 e) (λ (w : (is_arrival m.kind ≡ true) × (m.no ≡ k.no)). f w.0 (inl (e, sym w.1)))
      (sent_push is_arrival k.no ms m s),
  once_push ms m (λ e s. f e (inr s)) h.1,
)

-- many messages
pub sent_append : (p : Kind2 → Bool) (n : ℕ) (ms ks : List Message) → Sent p n (ms ++ ks) → Sent p n ms ⊎ Sent p n ks
sent_append p n [] ks h = inr h
sent_append p n (m ∷ ms) ks (inl h) = inl (inl h)
sent_append p n (m ∷ ms) ks (inr h) = ⊎_elim (λ (r : Sent p n ms). inl (inr r)) inr (sent_append p n ms ks h)

pub append_sent : (p : Kind2 → Bool) (n : ℕ) (ms ks : List Message) → Sent p n ms → Sent p n (ms ++ ks)
append_sent p n [] ks h = absurd h
append_sent p n (m ∷ ms) ks (inl h) = inl h
append_sent p n (m ∷ ms) ks (inr h) = inr (append_sent p n ms ks h)

pub stop_append : (n f : ℕ) (ms ks : List Message) → IsStop n f (ms ++ ks) → IsStop n f ms ⊎ IsStop n f ks
stop_append n f [] ks h = inr h
stop_append n f (m ∷ ms) ks (inl h) = inl (inl h)
stop_append n f (m ∷ ms) ks (inr h) = ⊎_elim (λ (r : IsStop n f ms). inl (inr r)) inr (stop_append n f ms ks h)

pub stop_other : (n f : ℕ) (ms : List Message) (m : Message) → is_stop m.kind ≡ false → IsStop n f (ms ++ m ∷ []) →
    IsStop n f ms
stop_other n f ms m e h =
    ⊎_elim (λ k. k)
    (λ (k : ((is_stop m.kind ≡ true) × (m.no ≡ n) × (m.by ≡ f)) ⊎ ⊥). absurd
    (⊎_elim (λ (w : (is_stop m.kind ≡ true) × (m.no ≡ n) × (m.by ≡ f)). both_ways (is_stop m.kind) e w.0)
    (λ (w : ⊥). w) k))
    (stop_append n f ms (m ∷ []) h)
