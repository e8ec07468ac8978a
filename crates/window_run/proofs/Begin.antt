-- The nodes set out, one by one.
use Rattle.std.proofs.Common.{◌≡◌, ◌≢◌, ℕ, zero, suc, ◌+◌, ◌-◌, ◌*◌, ◌^◌, ◌<◌, ◌≤◌, Bool, true, false, List, [], ◌∷◌, ◌++◌, length, get_or, set, map, refl, sym, ap, ◌∙◌, arith, ⊎_elim, inl, inr, ℤ, pos, negsuc, ◌+ℤ◌, ◌*ℤ◌, unsigned_abs, subst}
use Rattle.std.proofs.lemmas.Int.{ints}
use Rattle.std.proofs.lemmas.Bool.{cases_eq, false≢true}
use Rattle.std.proofs.lemmas.List.{get_or-set_same, get_or-set_other, length-append, length-set}
use Rattle.std.proofs.lemmas.List.Sums.{sum_by_push}
use Rattle.semantics.specs.declared.line.Line.{Line}
use Rattle.node_ramps.specs.Lines.{num_at, turned, voltage, InBounds}
use Rattle.window_run.specs.Net.{IsNet, Net}
use Rattle.histories.specs.Track.{line_of, no_line}
use Rattle.window_run.specs.Pieces.{IsPiece, OnlyFree, SetsOut, line_count, piece_of}
use Rattle.window_run.specs.Stage.{AreBounded, AreLines, AreSlow, SameDriven, SameVolts}
use Rattle.window_run.proofs.Flows.{back, front}
use Rattle.window_run.proofs.Lines.{each, meets, not_driven, turned_in_bounds, turned_there}

none_more : (x r : ℤ) (n : ℕ) → n ≡ 0 → x +ℤ (r *ℤ pos n) ≡ x
none_more x (pos r) n e = rw e (omega (arith, ints))
none_more x (negsuc r) n e = rw e (omega (arith, ints))

-- a line that turns where it begins
begins : (l : Line) (from : ℕ) (rate : ℤ) → l.start ≡ from → record { start = l.start; num = l.num; rate = rate; den = l.den } ≡ turned l from rate
begins l from rate e = rw (← e) (ap (λ (z : ℤ). record { start = l.start; num = z; rate = rate; den = l.den }) (sym (none_more l.num l.rate (l.start - l.start) (omega arith))))

pub record Out (net : Net) (from end n : ℕ) (rates : List ℤ) (first ls : List Line) (ps : List (List Line)) (first_steps steps : ℕ) : Type 0 where
  pub lines : AreLines ls from end
  pub nums : AreBounded net ls from
  pub slow : AreSlow net ls
  pub goes : (i : ℕ) → i < n → net.free i ≡ true → (line_of ls i).rate ≡ get_or rates i (pos 0)
  pub still : (i : ℕ) → n ≤ i → line_of ls i ≡ line_of first i
  pub volts : SameVolts first ls from
  pub driven : SameDriven net first ls
  pub count : length ps ≡ n
  pub pieces : (i : ℕ) → i < n → net.free i ≡ true → IsPiece from (piece_of ps i) (line_of ls i)
  pub only : OnlyFree net ps
  pub steps_are : steps ≡ first_steps + line_count ps

-- another place than the last one
other_place : (ps : List (List Line)) (xs : List Line) (i n : ℕ) → length ps ≡ n → i ≢ n → piece_of (ps ++ xs ∷ []) i ≡ piece_of ps i
other_place [] xs zero n count d = absurd (d count)
other_place [] xs (suc i) n count d = refl
other_place (p ∷ ps) xs zero n count d = refl
other_place (p ∷ ps) xs (suc i) zero count d = absurd (omega (arith, count))
other_place (p ∷ ps) xs (suc i) (suc n) count d = other_place ps xs i n (omega (arith, count)) (λ (e : i ≡ n). d (ap suc e))

-- what is true of the line of one more node
record Next (net : Net) (from end n : ℕ) (rate : ℤ) (l new : Line) (xs : List Line) : Type 0 where
  pub start : new.start ≤ from
  pub bounds : InBounds new end
  pub num : net.free n ≡ true → unsigned_abs (num_at new from) ≤ 10 ^ 21 + 10 ^ 15 * from
  pub slow : net.free n ≡ true → unsigned_abs new.rate ≤ 10 ^ 15
  pub goes : net.free n ≡ true → new.rate ≡ rate
  pub volts : voltage new from ≡ voltage l from
  pub driven : net.driven n ≡ true → new ≡ l
  pub piece : net.free n ≡ true → IsPiece from xs new
  pub none : net.free n ≡ false → xs ≡ []

one_piece : (from : ℕ) (l : Line) → l.start ≡ from → IsPiece from (l ∷ []) l
one_piece from l e = record { some = omega arith; first = e; last = refl; turns = λ j h. absurd (omega (arith, h)) }

next_line : (net : Net) (from end n : ℕ) (rate : ℤ) (l new : Line) (xs : List Line) (b : Bool) (s t : ℕ) → IsNet net → net.free n ≡ b → SetsOut b rate l new xs s t → from ≤ end → end ≤ 10 ^ 10 → l.start ≤ from → InBounds l end →
    (net.free n ≡ true → l.start ≡ from) → (net.free n ≡ true → unsigned_abs (num_at l from) ≤ 10 ^ 21 + 10 ^ 15 * from) → (net.free n ≡ true → unsigned_abs rate ≤ 10 ^ 15) → Next net from end n rate l new xs
next_line net from end n rate l new xs true s t is free out order short started bounds begin num slow =
    let e : new ≡ turned l from rate = out.line ∙ begins l from rate (begin free) in
    rw (out.piece, e) (record {
      start = omega arith;
      bounds = turned_in_bounds l from end rate bounds order short (num free) (slow free);
      num = λ _. rw (turned_there l from rate) (num free);
      slow = λ _. slow free;
      goes = λ _. refl;
      volts = meets l from rate;
      driven = λ d. absurd (false≢true (sym (not_driven net n is free) ∙ d));
      piece = λ _. one_piece from (turned l from rate) refl;
      none = λ f. absurd (false≢true (sym f ∙ free));
    })
next_line net from end n rate l new xs false s t is free out order short started bounds begin num slow =
    rw out.line (record {
      start = started;
      bounds = bounds;
      num = λ f. absurd (false≢true (sym free ∙ f));
      slow = λ f. absurd (false≢true (sym free ∙ f));
      goes = λ f. absurd (false≢true (sym free ∙ f));
      volts = refl;
      driven = λ d. refl;
      piece = λ f. absurd (false≢true (sym free ∙ f));
      none = λ _. out.piece;
    })

pub out_more : (net : Net) (from end n : ℕ) (rates : List ℤ) (first ls : List Line) (ps : List (List Line)) (s0 s t : ℕ) (rate : ℤ) (new : Line) (xs : List Line) (b : Bool) → IsNet net → net.free n ≡ b → rate ≡ get_or rates n (pos 0) → SetsOut b rate (line_of ls n) new xs s t →
    n < length ls → length ls ≡ net.nodes → end ≤ 10 ^ 10 → ((i : ℕ) → i < net.nodes → net.free i ≡ true → (line_of first i).start ≡ from) → ((i : ℕ) → i < net.nodes → net.free i ≡ true → unsigned_abs (get_or rates i (pos 0)) ≤ 10 ^ 15) →
    Out net from end n rates first ls ps s0 s → Out net from end (n + 1) rates first (set ls n new) (ps ++ xs ∷ []) s0 t
out_more net from end n rates first ls ps s0 s t rate new xs b is free is_rate out inside count short begin small old =
    let l : Line = line_of ls n in
    let below : n < net.nodes = omega (arith, inside, count) in
    let same : l ≡ line_of first n = old.still n (omega arith) in
    let next : Next net from end n rate l new xs = next_line net from end n rate l new xs b s t is free out old.lines.in_time short (old.lines.started n inside) (old.lines.bounds n inside)
    (λ f. ap (λ (m : Line). m.start) same ∙ begin n below f) (old.nums n below) (λ f. rw is_rate (small n below f)) in
    record {
      lines = record {
        started = each (λ i m. i < length (set ls n new) → m.start ≤ from) ls n new inside (λ _. next.start) (λ i h. old.lines.started i (omega (arith, h, length-set ls n new)));
        bounds = each (λ i m. i < length (set ls n new) → InBounds m end) ls n new inside (λ _. next.bounds) (λ i h. old.lines.bounds i (omega (arith, h, length-set ls n new)));
        in_time = old.lines.in_time;
      };
      nums = each (λ i m. i < net.nodes → net.free i ≡ true → unsigned_abs (num_at m from) ≤ 10 ^ 21 + 10 ^ 15 * from) ls n new inside (λ _ f. next.num f) old.nums;
      slow = each (λ i m. i < net.nodes → net.free i ≡ true → unsigned_abs m.rate ≤ 10 ^ 15) ls n new inside (λ _ f. next.slow f) old.slow;
      goes = λ i h f. ⊎_elim
          (λ (e : i ≡ n). rw (e, get_or-set_same ls n new no_line inside) (next.goes (subst (λ j. net.free j ≡ true) e f) ∙ is_rate))
          (λ (d : i ≢ n). rw (get_or-set_other ls n i new no_line d) (old.goes i (omega (arith, h, d)) f))
          (cases_eq i n);
      still = λ i h. get_or-set_other ls n i new no_line (λ (e : i ≡ n). omega (arith, e, h)) ∙ old.still i (omega (arith, h));
      volts = each (λ i m. i < length first → voltage m from ≡ voltage (line_of first i) from) ls n new inside (λ h. next.volts ∙ old.volts n h) old.volts;
      driven = each (λ i m. net.driven i ≡ true → m ≡ line_of first i) ls n new inside (λ d. next.driven d ∙ same) old.driven;
      count = length-append ps (xs ∷ []) ∙ ap (λ k. k + 1) old.count;
      pieces = λ i h f. ⊎_elim
          (λ (e : i ≡ n). rw (e, back ps xs [] n (sym old.count), get_or-set_same ls n new no_line inside) (next.piece (subst (λ j. net.free j ≡ true) e f)))
          (λ (d : i ≢ n). rw (front ps xs [] i (omega (arith, h, d, old.count)), get_or-set_other ls n i new no_line d) (old.pieces i (omega (arith, h, d)) f))
          (cases_eq i n);
      only = λ i f. ⊎_elim
          (λ (e : i ≡ n). rw (e, back ps xs [] n (sym old.count)) (next.none (subst (λ j. net.free j ≡ false) e f)))
          (λ (d : i ≢ n). other_place ps xs i n old.count d ∙ old.only i f)
          (cases_eq i n);
      steps_are = let sum = sum_by_push (λ (zs : List Line). length zs) ps xs in let a = out.steps in let z = old.steps_are in omega (arith, sum, a, z);
    }

pub map_push : {A : Type 0} (f : A → List Line) (xs : List A) (x : A) → map f (xs ++ x ∷ []) ≡ map f xs ++ f x ∷ []
map_push f [] x = refl
map_push f (y ∷ ys) x = ap (λ zs. f y ∷ zs) (map_push f ys x)
