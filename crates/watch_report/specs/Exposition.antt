-- The text of the metrics: Prometheus' exposition format, version 0.0.4.
use Rattle.std.specs.Prelude.{ℕ, ◌/◌, ◌%◌, ◌-◌, ◌==◌, List, [], ◌∷◌, ◌++◌, length, replicate, flat_map, if◌then◌else◌, codes, decimal}

-- the two comments before a metric's values
unfoldable pub heading : (name help kind : List ℕ) → List ℕ
heading name help kind = codes "# HELP " ++ (name ++ (codes " " ++ (help ++ (codes "\n# TYPE " ++ (name ++ (codes " " ++ (kind ++ codes "\n")))))))

-- a value without labels
abbrev pub sample : (name value : List ℕ) → List ℕ
sample name value = name ++ (codes " " ++ (value ++ codes "\n"))

-- the digits, with zeros before them up to nine
abbrev pub nine_digits : List ℕ → List ℕ
nine_digits ds = replicate (9 - length ds) 48 ++ ds

-- nanoseconds in seconds, with nine digits after the point
abbrev pub seconds_text : ℕ → List ℕ
seconds_text n = decimal (n / 1000000000) ++ (codes "." ++ nine_digits (decimal (n % 1000000000)))

-- a byte of a label's value: a backslash, a quote and an LF are escaped
abbrev pub label_byte : ℕ → List ℕ
label_byte b = if b == 92 then 92 ∷ 92 ∷ [] else (if b == 34 then 92 ∷ 34 ∷ [] else (if b == 10 then 92 ∷ 110 ∷ [] else b ∷ []))

abbrev pub label_text : List ℕ → List ℕ
label_text = flat_map label_byte

-- a value with one label
unfoldable pub labelled : (name label value : List ℕ) → ℕ → List ℕ
labelled name label value n = (name ++ (codes "{" ++ (label ++ codes "=\""))) ++ (label_text value ++ (codes "\"} " ++ (decimal n ++ codes "\n")))

unfoldable pub gauge : (name help : List ℕ) → ℕ → List ℕ
gauge name help n = heading name help (codes "gauge") ++ sample name (decimal n)

unfoldable pub counter : (name help : List ℕ) → ℕ → List ℕ
counter name help n = heading name help (codes "counter") ++ sample name (decimal n)

unfoldable pub seconds : (name help : List ℕ) → ℕ → List ℕ
seconds name help n = heading name help (codes "gauge") ++ sample name (seconds_text n)
