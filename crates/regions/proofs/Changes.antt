-- What an addition and a cut leave.
use Rattle.std.proofs.Common.{◌≡◌, ℕ, zero, suc, ◌-◌, ◌<◌, ◌≤◌, ltb, Bool, true, false, not, ◌&&◌, ◌||◌, cond, List, [], ◌∷◌, ◌++◌, length, refl, sym, ap, ◌∙◌, arith, ⊎_elim, inl, inr, subst, Result, Ok, Err}
use Rattle.std.specs.Prelude.{◌⊎◌, OnErr, OnOk}
use Rattle.std.specs.List.{All}
use Rattle.std.proofs.lemmas.Bool.{and_from, and_parts, false≢true, le-ltb, lt-ltb, or_cases, or_left, or_right}
use Rattle.std.proofs.lemmas.List.Elements.{All-append, All-cons, All-nil}
use Rattle.regions.specs.declared.span.Span.{Span}
use Rattle.regions.specs.Spans.{IsAt, IsJoined, IsSpans, has, some_span, span_of, within}
use Rattle.regions.proofs.Ticks.{from_le, has_append, has_at, has_where, same_answer, some_at, until_le, within_from, within_parts}
use Rattle.regions.proofs.Parts.{Apart, Fits, join, le_or_lt, put, put_from, put_into}

one_has : (s : Span) (t : ℕ) → has (s ∷ []) t ≡ true → (s.from ≤ t) × (t < s.until)
one_has s t e = ⊎_elim
    (λ (h : within s.from s.until t ≡ true). within_parts s.from s.until t h)
    (λ (n : false ≡ true). absurd (false≢true n))
    (or_cases (within s.from s.until t) false e)

-- ---- an addition

record Touches (ss : List Span) (first last from until : ℕ) : Type 0 where
  spans : IsSpans ss
  order : from < until
  first_by : first ≤ length ss
  last_by : last ≤ length ss
  ends : (k : ℕ) → k < first → (span_of ss k).until < from
  near : (k : ℕ) → first ≤ k → k < length ss → from ≤ (span_of ss k).until
  begins : (k : ℕ) → k < last → (span_of ss k).from ≤ until
  past : (k : ℕ) → last ≤ k → k < length ss → until < (span_of ss k).from

in_order : (ss : List Span) (first last from until : ℕ) → Touches ss first last from until → first ≤ last
in_order ss first last from until c = ⊎_elim
    (λ (h : first ≤ last). h)
    (λ (h : last < first). absurd (
    let inside : last < length ss = (let b = c.first_by in omega (arith, h, b)) in
    let a = c.ends last h in let b = c.past last (omega arith) inside in let s = some_at ss last c.spans inside in let o = c.order in
    omega (arith, a, b, s, o)))
    (le_or_lt first last)

-- how far the new span goes, where it takes in others and where it does not
record Reach (ss : List Span) (first last from until : ℕ) (s : Span) : Type 0 where
  low : s.from ≤ from
  high : until ≤ s.until
  after : (k : ℕ) → k < first → (span_of ss k).until < s.from
  before : (k : ℕ) → last ≤ k → k < length ss → s.until < (span_of ss k).from
  holds : (k t : ℕ) → first ≤ k → k < last → IsAt ss k t → (s.from ≤ t) × (t < s.until)
  early : (t : ℕ) → s.from ≤ t → t < from → (first < length ss) × IsAt ss first t
  late : (t : ℕ) → until ≤ t → t < s.until → ((last - 1) < length ss) × IsAt ss (last - 1) t

reach : (ss : List Span) (first last from until : ℕ) (s : Span) → Touches ss first last from until → IsJoined ss first last from until s → Reach ss first last from until s
reach ss first last from until s c joined = ⊎_elim (λ (h : last ≤ first). alone h) (λ (h : first < last). some h) (le_or_lt last first)
  where
    some : first < last → Reach ss first last from until s
    some h =
        let f = (joined.0 h).0 in
        let u = (joined.0 h).1 in
        let by = c.last_by in
        let order = c.order in
        record {
          low = omega (arith, f);
          high = omega (arith, u);
          after = λ k b. (let a = c.ends k b in let apart = c.spans.apart k first b (omega (arith, h, by)) in omega (arith, f, a, apart));
          before = λ k b i. (let a = c.past k b i in let apart = c.spans.apart (last - 1) k (omega (arith, h, b)) i in omega (arith, u, a, apart));
          holds = λ k t a b at. (
            (let low = from_le ss first k c.spans a (omega (arith, b, by)) in omega (arith, f, low, at.0)),
            (let high = until_le ss k (last - 1) c.spans (omega (arith, b)) (omega (arith, h, by)) in omega (arith, u, high, at.1)),
          );
          early = λ t a b. (
            omega (arith, h, by),
            (omega (arith, f, a, b), (let near = c.near first (omega arith) (omega (arith, h, by)) in omega (arith, near, b))),
          );
          late = λ t a b. (
            omega (arith, h, by),
            ((let begins = c.begins (last - 1) (omega (arith, h)) in omega (arith, begins, a)), omega (arith, u, a, b)),
          );
        }

    alone : last ≤ first → Reach ss first last from until s
    alone h =
        let f = (joined.1 h).0 in
        let u = (joined.1 h).1 in
        record {
          low = omega (arith, f);
          high = omega (arith, u);
          after = λ k b. (let a = c.ends k b in omega (arith, f, a));
          before = λ k b i. (let a = c.past k b i in omega (arith, u, a));
          holds = λ k t a b at. absurd (omega (arith, h, a, b));
          early = λ t a b. absurd (omega (arith, f, a, b));
          late = λ t a b. absurd (omega (arith, u, a, b));
        }

add_fits : (ss : List Span) (first last from until : ℕ) (s : Span) → Touches ss first last from until → Reach ss first last from until s → Fits ss first last (s ∷ [])
add_fits ss first last from until s c r = record {
  order = in_order ss first last from until c;
  by = c.last_by;
  spans = record { some = All-cons (λ x. x.from < x.until) s [] (let a = r.low in let b = r.high in let o = c.order in omega (arith, a, b, o)) (All-nil (λ x. x.from < x.until)); apart = λ i j h k. absurd (omega (arith, h, k)) };
  after = λ k h. All-cons (λ x. (span_of ss k).until < x.from) s [] (r.after k h) (All-nil (λ x. (span_of ss k).until < x.from));
  before = λ k h i. All-cons (λ x. x.until < (span_of ss k).from) s [] (r.before k h i) (All-nil (λ x. x.until < (span_of ss k).from));
}

add_has : (ss : List Span) (first last from until : ℕ) (s : Span) (t : ℕ) → Touches ss first last from until → Reach ss first last from until s → has (put ss first last (s ∷ [])) t ≡ (has ss t || within from until t)
add_has ss first last from until s t c r = same_answer (has (put ss first last (s ∷ [])) t) (has ss t || within from until t)
    (λ e. ⊎_elim
    (λ (old : (k : ℕ) × (k < length ss) × ((k < first) ⊎ (last ≤ k)) × IsAt ss k t). or_left (has ss t) (within from until t) (has_at ss old.0 t old.1 old.3))
    (λ (new : has (s ∷ []) t ≡ true). inside (one_has s t new).0 (one_has s t new).1)
    (put_from ss first last (s ∷ []) t c.first_by e))
    (λ e. put_into ss first last (s ∷ []) t c.first_by (⊎_elim
    (λ (old : has ss t ≡ true). let w = has_where ss t old in from_old w.0 w.1 w.2)
    (λ (new : within from until t ≡ true). let p = within_parts from until t new in
    inr (or_left (within s.from s.until t) false (within_from s.from s.until t (let a = r.low in omega (arith, a, p.0)) (let b = r.high in omega (arith, b, p.1)))))
    (or_cases (has ss t) (within from until t) e)))
  where
    inside : s.from ≤ t → t < s.until → (has ss t || within from until t) ≡ true
    inside a b = ⊎_elim
        (λ (h : from ≤ t). ⊎_elim
        (λ (k : until ≤ t). let l = r.late t k b in or_left (has ss t) (within from until t) (has_at ss (last - 1) t l.0 l.1))
        (λ (k : t < until). or_right (has ss t) (within from until t) (within_from from until t h k))
        (le_or_lt until t))
        (λ (h : t < from). let l = r.early t a h in or_left (has ss t) (within from until t) (has_at ss first t l.0 l.1))
        (le_or_lt from t)

    from_old : (k : ℕ) → k < length ss → IsAt ss k t → ((k : ℕ) × (k < length ss) × ((k < first) ⊎ (last ≤ k)) × IsAt ss k t) ⊎ (has (s ∷ []) t ≡ true)
    from_old k h at = ⊎_elim
        (λ (a : first ≤ k). ⊎_elim
        (λ (b : last ≤ k). inl (k, h, inr b, at))
        (λ (b : k < last). let p = r.holds k t a b at in inr (or_left (within s.from s.until t) false (within_from s.from s.until t p.0 p.1)))
        (le_or_lt last k))
        (λ (a : k < first). inl (k, h, inl a, at))
        (le_or_lt first k)

pub added : (ss : List Span) (first last from until : ℕ) (s : Span) → IsSpans ss → from < until → first ≤ length ss → last ≤ length ss →
    ((k : ℕ) → k < first → (span_of ss k).until < from) → ((k : ℕ) → first ≤ k → k < length ss → from ≤ (span_of ss k).until) →
    ((k : ℕ) → k < last → (span_of ss k).from ≤ until) → ((k : ℕ) → last ≤ k → k < length ss → until < (span_of ss k).from) → IsJoined ss first last from until s →
    Fits ss first last (s ∷ []) × ((t : ℕ) → has (put ss first last (s ∷ [])) t ≡ (has ss t || within from until t))
added ss first last from until s spans order fb lb ends near begins past joined =
    let c : Touches ss first last from until = record { spans = spans; order = order; first_by = fb; last_by = lb; ends = ends; near = near; begins = begins; past = past } in
    let r : Reach ss first last from until s = reach ss first last from until s c joined in
    (add_fits ss first last from until s c r, λ t. add_has ss first last from until s t c r)

-- ---- a cut

not_within : (from until t : ℕ) → not (within from until t) ≡ true → (t < from) ⊎ (until ≤ t)
not_within from until t e = ⊎_elim
    (λ (h : from ≤ t). ⊎_elim
    (λ (k : until ≤ t). inr k)
    (λ (k : t < until). absurd (false≢true (ap not (sym (within_from from until t h k)) ∙ e)))
    (le_or_lt until t))
    (λ (h : t < from). inl h)
    (le_or_lt from t)

outside : (from until t : ℕ) → (t < from) ⊎ (until ≤ t) → not (within from until t) ≡ true
outside from until t e = by (within from until t) refl
  where
    by : (b : Bool) → within from until t ≡ b → not (within from until t) ≡ true
    by true is = absurd (let p = within_parts from until t is in ⊎_elim (λ (h : t < from). omega (arith, h, p.0)) (λ (h : until ≤ t). omega (arith, h, p.1)) e)
    by false is = rw is refl

has_some : (a b t : ℕ) → has (some_span a b) t ≡ within a b t
has_some a b t = ⊎_elim
    (λ (h : b ≤ a). rw (le-ltb a b h) (sym (by (within a b t) refl h)))
    (λ (h : a < b). rw (lt-ltb a b h) (or_none (within a b t)))
    (le_or_lt b a)
  where
    by : (x : Bool) → within a b t ≡ x → b ≤ a → within a b t ≡ false
    by true is h = absurd (let p = within_parts a b t is in omega (arith, h, p.0, p.1))
    by false is h = is

    or_none : (x : Bool) → (x || false) ≡ x
    or_none true = refl
    or_none false = refl

all_some : (P : Span → Type 0) (a b : ℕ) → P (record { from = a; until = b }) → All P (some_span a b)
all_some P a b p = by (ltb a b)
  where
    by : (x : Bool) → All P (cond x (record { from = a; until = b } ∷ []) [])
    by true = All-cons P (record { from = a; until = b }) [] p (All-nil P)
    by false = All-nil P

some_spans : (a b : ℕ) → IsSpans (some_span a b)
some_spans a b = ⊎_elim
    (λ (h : b ≤ a). rw (le-ltb a b h) (record { some = All-nil (λ s. s.from < s.until); apart = λ i j h k. absurd (omega (arith, k)) }))
    (λ (h : a < b). rw (lt-ltb a b h) (record { some = All-cons (λ s. s.from < s.until) (record { from = a; until = b }) [] h (All-nil (λ s. s.from < s.until)); apart = λ i j h k. absurd (omega (arith, h, k)) }))
    (le_or_lt b a)

some_apart : (x y : Bool) (f from until b : ℕ) → from < until → Apart (cond x (record { from = f; until = from } ∷ []) []) (cond y (record { from = until; until = b } ∷ []) [])
some_apart false y f from until b h i j k l = absurd (omega (arith, k))
some_apart true false f from until b h i j k l = absurd (omega (arith, l))
some_apart true true f from until b h zero zero k l = h
some_apart true true f from until b h zero (suc j) k l = absurd (omega (arith, l))
some_apart true true f from until b h (suc i) j k l = absurd (omega (arith, k))

record Meets (ss : List Span) (first last from until : ℕ) : Type 0 where
  spans : IsSpans ss
  order : from < until
  first_by : first ≤ length ss
  last_by : last ≤ length ss
  ends : (k : ℕ) → k < first → (span_of ss k).until ≤ from
  near : (k : ℕ) → first ≤ k → k < length ss → from < (span_of ss k).until
  begins : (k : ℕ) → k < last → (span_of ss k).from < until
  past : (k : ℕ) → last ≤ k → k < length ss → until ≤ (span_of ss k).from

-- what is left of the spans that it meets
abbrev pub left_of : List Span → ℕ → ℕ → ℕ → ℕ → List Span
left_of ss first last from until = some_span (span_of ss first).from from ++ some_span until (span_of ss (last - 1)).until

cut_fits : (ss : List Span) (first last from until : ℕ) → first < last → Meets ss first last from until → Fits ss first last (left_of ss first last from until)
cut_fits ss first last from until h c =
    let f : ℕ = (span_of ss first).from in
    let b : ℕ = (span_of ss (last - 1)).until in
    let by = c.last_by in
    let order = c.order in
    record {
      order = omega (arith, h);
      by = by;
      spans = join (some_span f from) (some_span until b) (some_spans f from) (some_spans until b) (some_apart (ltb f from) (ltb until b) f from until b order);
      after = λ k low. All-append (λ s. (span_of ss k).until < s.from) (some_span f from) (some_span until b)
          (all_some (λ s. (span_of ss k).until < s.from) f from (c.spans.apart k first low (omega (arith, h, by))))
          (all_some (λ s. (span_of ss k).until < s.from) until b (let e = c.ends k low in omega (arith, e, order)));
      before = λ k high i. All-append (λ s. s.until < (span_of ss k).from) (some_span f from) (some_span until b)
          (all_some (λ s. s.until < (span_of ss k).from) f from (let e = c.past k high i in omega (arith, e, order)))
          (all_some (λ s. s.until < (span_of ss k).from) until b (c.spans.apart (last - 1) k (omega (arith, h, high)) i));
    }

cut_has : (ss : List Span) (first last from until t : ℕ) → first < last → Meets ss first last from until → has (put ss first last (left_of ss first last from until)) t ≡ (has ss t && not (within from until t))
cut_has ss first last from until t h c = same_answer (has (put ss first last (left_of ss first last from until)) t) (has ss t && not (within from until t))
    (λ e. ⊎_elim
    (λ (old : (k : ℕ) × (k < length ss) × ((k < first) ⊎ (last ≤ k)) × IsAt ss k t). and_from (has ss t) (not (within from until t)) (has_at ss old.0 t old.1 old.3) (outside from until t (⊎_elim
    (λ (low : old.0 < first). inl (let x = c.ends old.0 low in omega (arith, x, old.3.1)))
    (λ (high : last ≤ old.0). inr (let x = c.past old.0 high old.1 in omega (arith, x, old.3.0)))
    old.2)))
    (λ (new : has (left_of ss first last from until) t ≡ true). piece (rw is at new))
    (put_from ss first last (left_of ss first last from until) t c.first_by e))
    (λ e. let p = and_parts (has ss t) (not (within from until t)) e in
    let w = has_where ss t p.0 in
    put_into ss first last (left_of ss first last from until) t c.first_by (from_old w.0 w.1 w.2 (not_within from until t p.1)))
  where
    f : ℕ
    f = (span_of ss first).from

    b : ℕ
    b = (span_of ss (last - 1)).until

    is : has (left_of ss first last from until) t ≡ (within (span_of ss first).from from t || within until (span_of ss (last - 1)).until t)
    is = has_append (some_span (span_of ss first).from from) (some_span until (span_of ss (last - 1)).until) t ∙ rw (has_some (span_of ss first).from from t, has_some until (span_of ss (last - 1)).until t) refl

    piece : (within (span_of ss first).from from t || within until (span_of ss (last - 1)).until t) ≡ true → (has ss t && not (within from until t)) ≡ true
    piece e = ⊎_elim
        (λ (x : within (span_of ss first).from from t ≡ true). let p = within_parts (span_of ss first).from from t x in
        let by = c.last_by in
        let near = c.near first (omega arith) (omega (arith, h, by)) in
        and_from (has ss t) (not (within from until t)) (has_at ss first t (omega (arith, h, by)) (p.0, omega (arith, near, p.1))) (outside from until t (inl p.1)))
        (λ (x : within until (span_of ss (last - 1)).until t ≡ true). let p = within_parts until (span_of ss (last - 1)).until t x in
        let by = c.last_by in
        let begins = c.begins (last - 1) (omega (arith, h)) in
        and_from (has ss t) (not (within from until t)) (has_at ss (last - 1) t (omega (arith, h, by)) (omega (arith, begins, p.0), p.1)) (outside from until t (inr p.0)))
        (or_cases (within (span_of ss first).from from t) (within until (span_of ss (last - 1)).until t) e)

    from_old : (k : ℕ) → k < length ss → IsAt ss k t → ((t < from) ⊎ (until ≤ t)) → ((k : ℕ) × (k < length ss) × ((k < first) ⊎ (last ≤ k)) × IsAt ss k t) ⊎ (has (left_of ss first last from until) t ≡ true)
    from_old k i at out = ⊎_elim
        (λ (a : first ≤ k). ⊎_elim
        (λ (d : last ≤ k). inl (k, i, inr d, at))
        (λ (d : k < last). inr (rw is (⊎_elim
        (λ (x : t < from). or_left (within (span_of ss first).from from t) (within until (span_of ss (last - 1)).until t) (within_from (span_of ss first).from from t (let low = from_le ss first k c.spans a i in omega (arith, low, at.0)) x))
        (λ (x : until ≤ t). or_right (within (span_of ss first).from from t) (within until (span_of ss (last - 1)).until t) (within_from until (span_of ss (last - 1)).until t x (let by = c.last_by in let high = until_le ss k (last - 1) c.spans (omega (arith, d)) (omega (arith, h, by)) in omega (arith, high, at.1))))
        out)))
        (le_or_lt last k))
        (λ (a : k < first). inl (k, i, inl a, at))
        (le_or_lt first k)

pub cut_off : (ss : List Span) (first last from until : ℕ) → first < last → IsSpans ss → from < until → first ≤ length ss → last ≤ length ss →
    ((k : ℕ) → k < first → (span_of ss k).until ≤ from) → ((k : ℕ) → first ≤ k → k < length ss → from < (span_of ss k).until) →
    ((k : ℕ) → k < last → (span_of ss k).from ≤ until - 1) → ((k : ℕ) → last ≤ k → k < length ss → until - 1 < (span_of ss k).from) →
    Fits ss first last (left_of ss first last from until) × ((t : ℕ) → has (put ss first last (left_of ss first last from until)) t ≡ (has ss t && not (within from until t)))
cut_off ss first last from until h spans order fb lb ends near begins past =
    let c : Meets ss first last from until = record {
      spans = spans;
      order = order;
      first_by = fb;
      last_by = lb;
      ends = ends;
      near = near;
      begins = λ k b. (let x = begins k b in omega (arith, x, order));
      past = λ k b i. (let x = past k b i in omega (arith, x, order));
    } in
    (cut_fits ss first last from until h c, λ t. cut_has ss first last from until t h c)

-- where it meets none
pub cut_none : (ss : List Span) (first last from until t : ℕ) → last ≤ first → from < until →
    ((k : ℕ) → k < first → (span_of ss k).until ≤ from) → ((k : ℕ) → last ≤ k → k < length ss → until - 1 < (span_of ss k).from) → has ss t ≡ (has ss t && not (within from until t))
cut_none ss first last from until t h order ends past = same_answer (has ss t) (has ss t && not (within from until t))
    (λ e. let w = has_where ss t e in and_from (has ss t) (not (within from until t)) e (outside from until t (⊎_elim
    (λ (a : first ≤ w.0). inr (let x = past w.0 (omega (arith, a, h)) w.1 in omega (arith, x, w.2.0, order)))
    (λ (a : w.0 < first). inl (let x = ends w.0 a in omega (arith, x, w.2.1)))
    (le_or_lt first w.0))))
    (λ e. (and_parts (has ss t) (not (within from until t)) e).0)

-- ---- answers

pub either : {T E : Type 0} (r : Result T E) (P : List Span → Type 0) (new a b : List Span) → OnOk r (new ≡ a) → OnErr r (new ≡ b) → P a → P b → P new
either (Ok x) P new a b ok err p q = subst P (sym ok) p
either (Err e) P new a b ok err p q = subst P (sym err) q
