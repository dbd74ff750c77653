-- How the program ends, by what became of its words.
use Rattle.std.proofs.Common.{◌≡◌, inl, inr, ℕ, List, drop, map, Option, Result, Ok, Err, subst}
use Rattle.std.specs.Prelude.{IfOk, IfErr, String, string_bytes}
use Rattle.std.specs.declared.io.ErrorKind.{ErrorKind}
use Rattle.ct_top.specs.declared.served.Exit.{Exit}
use Rattle.ct_top.specs.declared.served.Exit.TheVariants as exits
use Rattle.ct_top.specs.declared.served.Served.{Served}
use Rattle.ct_top.specs.Exits.{status_of, IsServed, IsUntouched}
use Rattle.ctltarget.specs.Words.{exit_without_words, Ended, EndedWithout}

-- the arguments were given
pub ended : {S K Z A W E : Type 0} (left : S → Option (List ℕ)) (read_faults : S → ℕ) (held : K → Option (List ℕ)) (write_faults : K → ℕ)
    (args_of : A → List (String Z)) (words_of : W → List (String Z)) (source source_now : S) (sink sink_now : K) (status : ℕ) (served : Served)
    (args : Result A E) (words : Result W Exit)
    → IfOk args (λ a. IfOk words (λ w. words_of w ≡ drop 1 (args_of a))) → IfOk args (λ a. IfErr words (λ exit. exit ≡ exits.Memory))
    → IfOk words (λ w. IsServed left read_faults held write_faults (map string_bytes (words_of w)) source source_now sink sink_now served)
    → IfErr words (λ exit. IsUntouched source source_now sink sink_now exit served) → status ≡ status_of served.exit
    → IfOk args (λ a. Ended left read_faults held write_faults (args_of a) source source_now sink sink_now status)
ended left read_faults held write_faults args_of words_of source source_now sink sink_now status served (Err e) words behind memory done none is = tt
ended left read_faults held write_faults args_of words_of source source_now sink sink_now status served (Ok a) (Ok w) behind memory done none is = record {
  served = served;
  call = inl (subst (λ ws. IsServed left read_faults held write_faults (map string_bytes ws) source source_now sink sink_now served) behind done);
  status_is = is;
}
ended left read_faults held write_faults args_of words_of source source_now sink sink_now status served (Ok a) (Err exit) behind memory done none is = record {
  served = served;
  call = inr (subst (λ e. IsUntouched source source_now sink sink_now e served) memory none);
  status_is = is;
}

-- none were given
pub ended_without : {S K A W E : Type 0} (kind_of : E → ErrorKind) (source source_now : S) (sink sink_now : K) (status : ℕ) (served : Served)
    (args : Result A E) (words : Result W Exit) → IfErr args (λ e. words ≡ Err (exit_without_words (kind_of e)))
    → IfErr words (λ exit. IsUntouched source source_now sink sink_now exit served) → status ≡ status_of served.exit
    → IfErr args (λ e. EndedWithout source source_now sink sink_now (exit_without_words (kind_of e)) status)
ended_without kind_of source source_now sink sink_now status served (Ok a) words given none is = tt
ended_without {W = W} kind_of source source_now sink sink_now status served (Err e) words given none is = record {
  served = served;
  untouched = subst (λ (ws : Result W Exit). IfErr ws (λ exit. IsUntouched source source_now sink sink_now exit served)) given none;
  status_is = is;
}
