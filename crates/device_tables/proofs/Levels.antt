-- A level 1 model: its current from a fraction that was cut down, and the table of its currents.
use Rattle.std.proofs.Common.{◌≡◌, ℕ, zero, suc, ◌+◌, ◌*◌, ◌/◌, ◌^◌, ◌<◌, ◌≤◌, min, Bool, true, false, cond, ◌&&◌, ◌==◌, List, [], ◌∷◌, ◌++◌, length, get_or, map, IsTrue, ℤ, pos, ◌-ℤ◌, ◌*ℤ◌, neg_ℤ, ◌≤ℤ◌, unsigned_abs, int_le, int_div, refl, sym, ap, ◌∙◌, arith, length-append, eq-eqb}
use Rattle.std.specs.List.{range_with_len, list_all, flat_map}
use Rattle.std.proofs.lemmas.Int.{ints, clamps}
use Rattle.std.proofs.lemmas.Bool.{and_from, and_parts, le-leb}
use Rattle.std.proofs.lemmas.List.{get_or_append_left, get_or-append-add}
use Rattle.std.proofs.lemmas.List.FromFn.{length-map-range_with_len, get_or-map-range_with_len}
use Rattle.std.proofs.Math.Nat.{mul-div-mul_right}
use borrow.Author.Differences.{same_in, abs_is, neg_is}
use Rattle.semantics.specs.Grid.{uniform}
use Rattle.semantics.specs.Part.{Part, Level, Listed, capped, forward, square_law, n_current, middle, part_current, listed_current, gate_grid, drain_grid}
use Rattle.semantics.specs.Valid.{is_part, is_grid, small_amps, some_grain}
use Rattle.semantics.specs.declared.channel.Channel.{Channel}
use Rattle.semantics.specs.declared.channel.Channel.TheVariants.{N, P}
use Rattle.device_tables.specs.Table.{TableValue}
use Rattle.device_tables.specs.Level.{LevelValue, by_cells, level_table, part_table, table_of_level}
use Rattle.device_tables.proofs.Laws.{uniform_length, uniform_is_grid}

-- ---- one division

regroup : (a b c : ℕ) → a * b * c ≡ a * c * b
regroup a b c = omega arith

-- two fractions of one value have one quotient
pub same_quotient : (over under kw d square : ℕ) → over * d ≡ kw * under → 0 < under → 0 < d → over * square / under ≡ kw * square / d
same_quotient over under kw d square same u0 d0 =
    let scaled : over * square * d ≡ kw * square * under = regroup over square d ∙ ap (λ n. n * square) same ∙ regroup kw under square in
    sym (mul-div-mul_right (over * square) under d0) ∙ rw (scaled) (ap (λ n. kw * square * under / n) (omega arith)) ∙ mul-div-mul_right (kw * square) d u0

pub capped_natural : (n : ℕ) → capped (pos n) ≡ pos (min n (10 ^ 12))
capped_natural n = same_in (capped (pos n)) (pos (min n (10 ^ 12))) (omega (arith, ints, clamps))

pub forward_is : (vto kp width len vgs vds : ℤ) (k w l over under square : ℕ) → kp ≡ pos k → width ≡ pos w → len ≡ pos l → pos square ≡ square_law (vgs -ℤ vto) vds →
    over * (l * (2 * 10 ^ 12)) ≡ k * w * under → 0 < under → 0 < l → pos (min (over * square / under) (10 ^ 12)) ≡ forward vto kp width len vgs vds
forward_is vto kp width len vgs vds k w l over under square k_is w_is l_is square_is same u0 l0 =
    rw (k_is, w_is, l_is, ← square_is)
    (ap (λ n. pos (min n (10 ^ 12))) (same_quotient over under (k * w) (l * (2 * 10 ^ 12)) square same u0 (omega arith)) ∙ sym (capped_natural (k * w * square / (l * (2 * 10 ^ 12)))))

-- what a test of a range says of its lower end
pub at_least : (k : ℕ) (z most : ℤ) → IsTrue (int_le (pos k) z && int_le z most) → pos k ≤ℤ z
at_least k z most t = let low = (and_parts (int_le (pos k) z) (int_le z most) t).0 in omega (arith, ints, low)

pub zero_less : (z : ℤ) → pos 0 -ℤ z ≡ neg_ℤ z
zero_less z = same_in (pos 0 -ℤ z) (neg_ℤ z) (omega (arith, ints, neg_is z))

-- where the drain is below the source, it is the current of the exchanged device, negated
pub exchanged : (vto kp width len vgs vds r : ℤ) → int_le (pos 0) vds ≡ false → r ≡ forward vto kp width len (vgs -ℤ vds) (neg_ℤ vds) → neg_ℤ r ≡ n_current vto kp width len vgs vds
exchanged vto kp width len vgs vds r below r_is = rw (r_is, below) refl

pub n_channel_is : (m : LevelValue) (vto vgs vds r : ℤ) (g d : ℕ) → m.channel ≡ N → vto ≡ m.vto → vgs ≡ middle m.grain g → vds ≡ middle m.grain d → r ≡ n_current vto m.kp m.width m.len vgs vds →
    r ≡ part_current m.grain (Level m.channel m.vto m.kp) m.width m.len g d
unfolding part_current
n_channel_is m vto vgs vds r g d channel vto_is vgs_is vds_is r_is = rw (channel, ← vto_is, ← vgs_is, ← vds_is) r_is

pub p_channel_is : (m : LevelValue) (vto vgs vds r : ℤ) (g d : ℕ) → m.channel ≡ P → vto ≡ m.vto → vgs ≡ middle m.grain g → vds ≡ middle m.grain d →
    r ≡ n_current (neg_ℤ vto) m.kp m.width m.len (neg_ℤ vgs) (neg_ℤ vds) → neg_ℤ r ≡ part_current m.grain (Level m.channel m.vto m.kp) m.width m.len g d
unfolding part_current
p_channel_is m vto vgs vds r g d channel vto_is vgs_is vds_is r_is = rw (channel, ← vto_is, ← vgs_is, ← vds_is) (ap neg_ℤ r_is)

-- ---- the list of currents

row_get : (f : ℕ → ℤ) (n : ℕ) (rest : List ℤ) (j : ℕ) (z : ℤ) → j < n → get_or (map f (range_with_len 0 n) ++ rest) j z ≡ f j
row_get f n rest j z h =
    get_or_append_left (map f (range_with_len 0 n)) rest z j (omega (arith, length-map-range_with_len f 0 n)) ∙ get_or-map-range_with_len f 0 n j j z h (omega arith)

rows_get : (f : ℕ → ℕ → ℤ) (n a m i j : ℕ) (z : ℤ) → i < m → j < n → get_or (flat_map (λ g. map (f g) (range_with_len 0 n)) (range_with_len a m)) (i * n + j) z ≡ f (a + i) j
rows_get f n a zero i j z h l = absurd (omega arith)
rows_get f n a (suc m) zero j z h l =
    ap (λ k. get_or (map (f a) (range_with_len 0 n) ++ flat_map (λ g. map (f g) (range_with_len 0 n)) (range_with_len (a + 1) m)) k z) (omega arith)
    ∙ row_get (f a) n (flat_map (λ g. map (f g) (range_with_len 0 n)) (range_with_len (a + 1) m)) j z l ∙ ap (λ g. f g j) (omega arith)
rows_get f n a (suc m) (suc i) j z h l =
    ap (λ k. get_or (map (f a) (range_with_len 0 n) ++ flat_map (λ g. map (f g) (range_with_len 0 n)) (range_with_len (a + 1) m)) k z) (omega (arith, length-map-range_with_len (f a) 0 n))
    ∙ get_or-append-add (map (f a) (range_with_len 0 n)) (flat_map (λ g. map (f g) (range_with_len 0 n)) (range_with_len (a + 1) m)) (i * n + j) z
    ∙ rows_get f n (a + 1) m i j z (omega arith) l ∙ ap (λ g. f g j) (omega arith)

-- the current of two cells stands at its place
pub by_cells_get : (f : ℕ → ℕ → ℤ) (m n i j : ℕ) (z : ℤ) → i < m → j < n → get_or (by_cells m n f) (i * n + j) z ≡ f i j
unfolding by_cells
by_cells_get f m n i j z h l = rows_get f n 0 m i j z h l ∙ ap (λ g. f g j) (omega arith)

rows_length : (f : ℕ → ℕ → ℤ) (n a m : ℕ) → length (flat_map (λ g. map (f g) (range_with_len 0 n)) (range_with_len a m)) ≡ m * n
rows_length f n a zero = omega arith
rows_length f n a (suc m) =
    length-append (map (f a) (range_with_len 0 n)) (flat_map (λ g. map (f g) (range_with_len 0 n)) (range_with_len (a + 1) m))
    ∙ omega (arith, length-map-range_with_len (f a) 0 n, rows_length f n (a + 1) m)

pub by_cells_length : (f : ℕ → ℕ → ℤ) (m n : ℕ) → length (by_cells m n f) ≡ m * n
unfolding by_cells
by_cells_length f m n = rows_length f n 0 m

-- ---- the table

rows_all : (p : ℤ → Bool) (f : ℕ → ℤ) (a n : ℕ) → ((i : ℕ) → p (f i) ≡ true) → list_all p (map f (range_with_len a n)) ≡ true
rows_all p f a zero each = refl
rows_all p f a (suc n) each = and_from (p (f a)) (list_all p (map f (range_with_len (a + 1) n))) (each a) (rows_all p f (a + 1) n each)

all_append : (p : ℤ → Bool) (xs ys : List ℤ) → list_all p xs ≡ true → list_all p ys ≡ true → list_all p (xs ++ ys) ≡ true
all_append p [] ys first rest = rest
all_append p (x ∷ xs) ys first rest =
    let parts = and_parts (p x) (list_all p xs) first in
    and_from (p x) (list_all p (xs ++ ys)) parts.0 (all_append p xs ys parts.1 rest)

each_row : (p : ℤ → Bool) (f : ℕ → ℕ → ℤ) (n a m : ℕ) → ((i j : ℕ) → p (f i j) ≡ true) → list_all p (flat_map (λ g. map (f g) (range_with_len 0 n)) (range_with_len a m)) ≡ true
each_row p f n a zero each = refl
each_row p f n a (suc m) each =
    all_append p (map (f a) (range_with_len 0 n)) (flat_map (λ g. map (f g) (range_with_len 0 n)) (range_with_len (a + 1) m))
    (rows_all p (f a) 0 n (each a)) (each_row p f n (a + 1) m each)

by_cells_all : (p : ℤ → Bool) (f : ℕ → ℕ → ℤ) (m n : ℕ) → ((i j : ℕ) → p (f i j) ≡ true) → list_all p (by_cells m n f) ≡ true
unfolding by_cells
by_cells_all p f m n each = each_row p f n 0 m each

capped_small : (z : ℤ) → unsigned_abs (capped z) ≤ 10 ^ 12
capped_small z = omega (arith, ints, clamps, abs_is (capped z))

n_small : (vto kp width len vgs vds : ℤ) → unsigned_abs (n_current vto kp width len vgs vds) ≤ 10 ^ 12
n_small vto kp width len vgs vds = by_side (int_le (pos 0) vds)
  where
    negated : (z : ℤ) → unsigned_abs z ≤ 10 ^ 12 → unsigned_abs (neg_ℤ z) ≤ 10 ^ 12
    negated z h = omega (arith, abs_is z, abs_is (neg_ℤ z), neg_is z, h)

    by_side : (b : Bool) → unsigned_abs (cond b (forward vto kp width len vgs vds) (neg_ℤ (forward vto kp width len (vgs -ℤ vds) (neg_ℤ vds)))) ≤ 10 ^ 12
    by_side true = capped_small (int_div ((kp *ℤ width) *ℤ square_law (vgs -ℤ vto) vds) (len *ℤ pos (2 * 10 ^ 12)))
    by_side false =
        negated (forward vto kp width len (vgs -ℤ vds) (neg_ℤ vds)) (capped_small (int_div ((kp *ℤ width) *ℤ square_law ((vgs -ℤ vds) -ℤ vto) (neg_ℤ vds)) (len *ℤ pos (2 * 10 ^ 12))))

level_small : (channel : Channel) (vto kp width len : ℤ) (grain i j : ℕ) → small_amps (part_current grain (Level channel vto kp) width len i j) ≡ true
unfolding part_current
level_small N vto kp width len grain i j = le-leb (unsigned_abs (n_current vto kp width len (middle grain i) (middle grain j))) (10 ^ 12) (n_small vto kp width len (middle grain i) (middle grain j))
level_small P vto kp width len grain i j =
    let z = n_current (neg_ℤ vto) kp width len (neg_ℤ (middle grain i)) (neg_ℤ (middle grain j)) in
    le-leb (unsigned_abs (neg_ℤ z)) (10 ^ 12) (omega (arith, abs_is z, abs_is (neg_ℤ z), neg_is z, n_small (neg_ℤ vto) kp width len (neg_ℤ (middle grain i)) (neg_ℤ (middle grain j))))

-- the grids and currents of a level 1 model make a table
pub level_is_part : (channel : Channel) (vto kp width len : ℤ) (grain : ℕ) → IsTrue (some_grain grain) →
    IsTrue (is_part (Listed (level_table channel vto kp width len grain).gate (level_table channel vto kp width len grain).drain (level_table channel vto kp width len grain).amps))
unfolding level_table
level_is_part channel vto kp width len grain g =
    let grid = uniform_is_grid grain 128 g (omega arith) in
    let current : ℕ → ℕ → ℤ = part_current grain (Level channel vto kp) width len in
    and_from (is_grid (uniform grain 128)) _ grid (and_from (is_grid (uniform grain 128)) _ grid
    (and_from (length (by_cells 257 257 current) == (length (uniform grain 128) + 1) * (length (uniform grain 128) + 1)) _
    (eq-eqb _ _ (by_cells_length current 257 257 ∙ rw (uniform_length grain 128) refl))
    (by_cells_all small_amps current 257 257 (level_small channel vto kp width len grain))))

pub level_gate : (channel : Channel) (vto kp width len : ℤ) (grain : ℕ) → (level_table channel vto kp width len grain).gate ≡ uniform grain 128
unfolding level_table
level_gate channel vto kp width len grain = refl

pub level_drain : (channel : Channel) (vto kp width len : ℤ) (grain : ℕ) → (level_table channel vto kp width len grain).drain ≡ uniform grain 128
unfolding level_table
level_drain channel vto kp width len grain = refl

pub gate_length : (channel : Channel) (vto kp width len : ℤ) (grain : ℕ) → length (level_table channel vto kp width len grain).gate ≡ 256
gate_length channel vto kp width len grain = ap length (level_gate channel vto kp width len grain) ∙ uniform_length grain 128

pub drain_length : (channel : Channel) (vto kp width len : ℤ) (grain : ℕ) → length (level_table channel vto kp width len grain).drain ≡ 256
drain_length channel vto kp width len grain = ap length (level_drain channel vto kp width len grain) ∙ uniform_length grain 128

-- the table's current in two cells is the model's
pub level_current : (channel : Channel) (vto kp width len : ℤ) (grain g d : ℕ) → g ≤ 256 → d ≤ 256 →
    listed_current (level_table channel vto kp width len grain).drain (level_table channel vto kp width len grain).amps g d ≡ part_current grain (Level channel vto kp) width len g d
unfolding level_table
level_current channel vto kp width len grain g d g_low d_low =
    ap (λ n. get_or (by_cells 257 257 (part_current grain (Level channel vto kp) width len)) (g * (n + 1) + d) (pos 0)) (uniform_length grain 128)
    ∙ by_cells_get (part_current grain (Level channel vto kp) width len) 257 257 g d (pos 0) (omega arith) (omega arith)

-- in cells of its grids the table of a part has the current of the part
pub part_table_current : (grain : ℕ) (p : Part) (width len : ℤ) (g d : ℕ) → g ≤ length (part_table grain p width len).gate → d ≤ length (part_table grain p width len).drain →
    listed_current (part_table grain p width len).drain (part_table grain p width len).amps g d ≡ part_current grain p width len g d
unfolding part_current
part_table_current grain (Level channel vto kp) width len g d g_low d_low =
    level_current channel vto kp width len grain g d
    (omega (arith, g_low, gate_length channel vto kp width len grain))
    (omega (arith, d_low, drain_length channel vto kp width len grain))
part_table_current grain (Listed gate drain amps) width len g d g_low d_low = refl

-- and its grids are those of the part
pub part_table_gate : (grain : ℕ) (p : Part) (width len : ℤ) → (part_table grain p width len).gate ≡ gate_grid grain p
part_table_gate grain (Level channel vto kp) width len = level_gate channel vto kp width len grain
part_table_gate grain (Listed gate drain amps) width len = refl

pub part_table_drain : (grain : ℕ) (p : Part) (width len : ℤ) → (part_table grain p width len).drain ≡ drain_grid grain p
part_table_drain grain (Level channel vto kp) width len = level_drain channel vto kp width len grain
part_table_drain grain (Listed gate drain amps) width len = refl

-- an entry of the table that a level 1 model stands for
pub level_entry : (l : LevelValue) (t : TableValue) (g d : ℕ) (r : ℤ) → table_of_level l ≡ t → g ≤ length t.gate → d ≤ length t.drain →
    r ≡ part_current l.grain (Level l.channel l.vto l.kp) l.width l.len g d → r ≡ listed_current t.drain t.amps g d
level_entry l t g d r t_is g_low d_low r_is =
    r_is ∙ sym (part_table_current l.grain (Level l.channel l.vto l.kp) l.width l.len g d (rw (← t_is) at g_low) (rw (← t_is) at d_low)) ∙ ap (λ (t : TableValue). listed_current t.drain t.amps g d) t_is
