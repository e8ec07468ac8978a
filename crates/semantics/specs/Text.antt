-- The lines that the program prints.
use Rattle.std.specs.Prelude.{ℕ, ℤ, pos, List, ◌++◌, length, codes}
use Rattle.std.specs.List.{flat_map}
use Rattle.std.specs.Int.{int_div_euclid}
use Rattle.std.specs.Fmt.{decimal, signed_decimal}
use Rattle.semantics.specs.declared.line.Line.{Line}
use Rattle.semantics.specs.Deck.{DeckValue, nodes}
use Rattle.semantics.specs.Wave.{wave}

-- rounded down
abbrev pub floor : ℤ → ℕ → ℤ
floor num den = int_div_euclid num (pos den)

-- TICK MICROVOLTS NUM RATE DEN
unfoldable pub line_text : Line → List ℕ
line_text l =
    decimal l.start ++ (codes " " ++ (signed_decimal (floor l.num l.den) ++ (codes " " ++ (signed_decimal l.num
    ++ (codes " " ++ (signed_decimal l.rate ++ (codes " " ++ (decimal l.den ++ codes "\n"))))))))

-- wave NODE COUNT
unfoldable pub wave_head : List ℕ → ℕ → List ℕ
wave_head n count = codes "wave " ++ (n ++ (codes " " ++ (decimal count ++ codes "\n")))

-- that line, and the wave's own
unfoldable pub wave_text : List ℕ → List Line → List ℕ
wave_text n lines = wave_head n (length lines) ++ flat_map line_text lines

-- version K
unfoldable pub version_text : ℕ → List ℕ
version_text k = codes "version " ++ (decimal k ++ codes "\n")

-- without a script: version 0, and the wave of each node
unfoldable pub default_output : DeckValue → List ℕ
default_output d = version_text 0 ++ flat_map (λ n. wave_text n (wave d n)) (nodes d)
