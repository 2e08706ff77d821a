-- One text after another goes to a sink.
use Rattle.std.proofs.Common.{◌≡◌, ℕ, ◌+◌, ◌<◌, List, [], ◌∷◌, ◌++◌, length, take, drop, get_or, Option, Result, Ok, Err, sym, ap, ◌∙◌, subst, append-nil, arith}
use Rattle.std.specs.List.{flat_map}
use Rattle.std.proofs.lemmas.Grind.{flat_map-append}
use Rattle.std.proofs.lemmas.List.{take-append-le, length-append, take_more, take-append-drop}
use Rattle.std.proofs.Math.Seq.{take-append-add}
use Rattle.audit_model.specs.Sink.{followed_by, raised_by}
use Rattle.audit_model.specs.declared.write_fault.WriteFault.{WriteFault}
use Rattle.audit_model.proofs.Sinks.{follows_both}
use Rattle.audit_cert.specs.Writing.{Course, Went, Stopped, Puts}

abbrev pub course : Option (List ℕ) → Option (List ℕ) → Option ℕ → Option ℕ → Course
course t u f h = record { taken = t; taken_now = u; failures = f; failures_now = h }

pub went_both : (a b : List ℕ) (t u v : Option (List ℕ)) (f h k : Option ℕ) → Went a (course t u f h) → Went b (course u v h k) → Went (a ++ b) (course t v f k)
went_both a b t u v f h k p q = record {
  all = q.all ∙ ap (λ (o : Option (List ℕ)). followed_by o b) p.all ∙ follows_both t a b;
  kept = q.kept ∙ p.kept;
}

pub stopped_first : (a b : List ℕ) (fault : WriteFault) (c : Course) → Stopped a fault c → Stopped (a ++ b) fault c
stopped_first a b fault c s = record {
  front = (s.front.0, omega (arith, s.front.1, length-append a b), s.front.2 ∙ ap (followed_by c.taken) (sym (take-append-le s.front.0 a b s.front.1)));
  device = s.device;
  memory = s.memory;
}

pub stopped_then : (a b : List ℕ) (fault : WriteFault) (t u v : Option (List ℕ)) (f h k : Option ℕ) → Went a (course t u f h) → Stopped b fault (course u v h k) → Stopped (a ++ b) fault (course t v f k)
stopped_then a b fault t u v f h k p s = record {
  front = (
    length a + s.front.0,
    omega (arith, s.front.1, length-append a b),
    s.front.2 ∙ ap (λ (o : Option (List ℕ)). followed_by o (take s.front.0 b)) p.all ∙ follows_both t a (take s.front.0 b) ∙ ap (followed_by t) (sym (take-append-add a b s.front.0)),
  );
  device = λ is. s.device is ∙ ap (λ (o : Option ℕ). raised_by o 1) p.kept;
  memory = λ is. s.memory is ∙ p.kept;
}

-- the lines of one item more
pub lines_more : {X : Type 0} (line : X → List ℕ) (xs : List X) (i : ℕ) (d : X) → i < length xs → flat_map line (take (i + 1) xs) ≡ flat_map line (take i xs) ++ line (get_or xs i d)
lines_more line xs i d lt = ap (flat_map line) (take_more xs i d lt) ∙ flat_map-append line (take i xs) (get_or xs i d ∷ []) ∙ ap (λ (l : List ℕ). flat_map line (take i xs) ++ l) (append-nil (line (get_or xs i d)))

pub lines_all : {X : Type 0} (line : X → List ℕ) (xs : List X) (i : ℕ) (d : X) → i < length xs → flat_map line xs ≡ (flat_map line (take i xs) ++ line (get_or xs i d)) ++ flat_map line (drop (i + 1) xs)
lines_all line xs i d lt = ap (flat_map line) (sym (take-append-drop (i + 1) xs)) ∙ flat_map-append line (take (i + 1) xs) (drop (i + 1) xs) ∙ ap (λ (l : List ℕ). l ++ flat_map line (drop (i + 1) xs)) (lines_more line xs i d lt)

pub went_more : {X : Type 0} (line : X → List ℕ) (xs : List X) (i : ℕ) (x : X) (t u v : Option (List ℕ)) (f h k : Option ℕ) → i < length xs → x ≡ get_or xs i x →
    Went (flat_map line (take i xs)) (course t u f h) → Went (line x) (course u v h k) → Went (flat_map line (take (i + 1) xs)) (course t v f k)
went_more {X = X} line xs i x t u v f h k lt is p q =
    let both = went_both (flat_map line (take i xs)) (line x) t u v f h k p q in
    let text : flat_map line (take i xs) ++ line x ≡ flat_map line (take (i + 1) xs) = ap (λ (y : X). flat_map line (take i xs) ++ line y) is ∙ sym (lines_more line xs i x lt) in
    subst (λ (l : List ℕ). Went l (course t v f k)) text both

pub stopped_more : {X : Type 0} (line : X → List ℕ) (xs : List X) (i : ℕ) (x : X) (fault : WriteFault) (t u v : Option (List ℕ)) (f h k : Option ℕ) → i < length xs → x ≡ get_or xs i x →
    Went (flat_map line (take i xs)) (course t u f h) → Stopped (line x) fault (course u v h k) → Stopped (flat_map line xs) fault (course t v f k)
stopped_more {X = X} line xs i x fault t u v f h k lt is p q =
    let both = stopped_then (flat_map line (take i xs)) (line x) fault t u v f h k p q in
    let whole = stopped_first (flat_map line (take i xs) ++ line x) (flat_map line (drop (i + 1) xs)) fault (course t v f k) both in
    let text : (flat_map line (take i xs) ++ line x) ++ flat_map line (drop (i + 1) xs) ≡ flat_map line xs = ap (λ (y : X). (flat_map line (take i xs) ++ line y) ++ flat_map line (drop (i + 1) xs)) is ∙ sym (lines_all line xs i x lt) in
    subst (λ (l : List ℕ). Stopped l fault (course t v f k)) text whole

pub puts_then : {A : Type 0} (a b : List ℕ) (result : Result A WriteFault) (t u v : Option (List ℕ)) (f h k : Option ℕ) → Went a (course t u f h) → Puts b result (course u v h k) → Puts (a ++ b) result (course t v f k)
puts_then a b (Ok x) t u v f h k p q = went_both a b t u v f h k p q
puts_then a b (Err fault) t u v f h k p q = stopped_then a b fault t u v f h k p q
