-- One region that has every name.
use Rattle.std.proofs.Common.{◌≡◌, ◌≢◌, ℕ, ◌==◌, Bool, true, false, ◌&&◌, ◌||◌, [], Option, Some, None, refl, sym, ap, ◌∙◌, inr, unwrap_or}
use Rattle.std.specs.Option.{option_map}
use Rattle.semantics.specs.Deck.{Name}
use Rattle.semantics.specs.Neighbours.{is_free}
use Rattle.board_laws.specs.Board.{BoardValue}
use Rattle.board_laws.specs.Regions.{OneRegion, Regroups, SameOut}
use Rattle.board_laws.specs.Windows.{WindowValue, is_beside, is_joined, is_mine, is_swept, is_written}
use Rattle.board_laws.proofs.Stays.{none_not_some}

some_is : {o : Option ℕ} → o ≡ Some 0 → o ≢ None
some_is {o} is none = none_not_some 0 (sym is ∙ none)

pub regroups : (b c : BoardValue) → OneRegion b → OneRegion c → SameOut b c → Regroups b c
regroups b c one_b one_c out = record {
  out = out;
  lent = λ n r lent. ap (λ o. unwrap_or (option_map (λ q. q == r) o) false) (one_c n ∙ sym (one_b n));
  together = λ m n r at_m at_n. (some_is (one_c m), one_c m ∙ sym (one_c n));
  owned = λ n t pending. some_is (one_c n);
  new = λ n r none some. absurd (some_is (one_b n) none);
  chained = λ m n r other at_m at_n. ([], inr (0, one_b m, one_b n));
}

pub swept : (b : BoardValue) (w : WindowValue) (n : Name) → OneRegion b → is_swept b 0 w n ≡ is_free b.deck n
swept b w n one =
    (λ i. is_free b.deck n
    && ((mine i || is_written b 0 w n) || is_beside b.deck (λ m. is_mine b 0 w m || is_written b 0 w m) n))
    ∙ whole (is_free b.deck n)
  where
    mine : is_mine b 0 w n ≡ true
    mine = ap (λ o. unwrap_or (option_map (λ q. (q == 0) || is_joined b w q) o) false) (one n)

    whole : (x : Bool) → (x && true) ≡ x
    whole true = refl
    whole false = refl
