-- The captures that are requested, with their digests and texts.
use Rattle.std.proofs.Common.{◌≡◌, ℕ, List, [], ◌∷◌, map, Option, Some, ap, ◌∙◌, Bor}
use Rattle.std.specs.List.{AllByRecursion, AllZip}
use Rattle.sha2.specs.Sha256.{sha256}
use Rattle.prep_program.specs.declared.cutting.ToCut.{ToCut}
use Rattle.prep_program.specs.declared.hashing.Hashed.{Hashed}
use Rattle.prep_program.specs.Hashings.{IsHashed}

-- captures of these names and digests have the texts of the names, and their digests
pub texts_of : (holds : List ℕ → Option (List ℕ)) (to_cut : List ToCut) (hashed : List Hashed) (names : List (Bor (List ℕ))) (texts : List (List ℕ))
    → map (λ (one : ToCut). one.name.now) to_cut ≡ map (λ (one : Hashed). one.name.now) hashed
    → map (λ (one : ToCut). one.digest) to_cut ≡ map (λ (one : Hashed). one.digest) hashed
    → map (λ (one : Hashed). one.name.now) hashed ≡ map (λ (name : Bor (List ℕ)). name.now) names
    → AllByRecursion (λ (one : Hashed). IsHashed holds one) hashed
    → AllZip (λ (name : Bor (List ℕ)) (text : List ℕ). holds name.now ≡ Some text) names texts
    → AllZip (λ (one : ToCut) (text : List ℕ). (holds one.name.now ≡ Some text) × (one.digest ≡ sha256 text)) to_cut texts
texts_of holds [] [] [] [] e d f all zip = tt
texts_of holds [] [] [] (t ∷ texts) e d f all zip = absurd zip
texts_of holds [] [] (n ∷ names) texts e d f all zip = absurd cc
texts_of holds [] (h ∷ hashed) names texts e d f all zip = absurd cc
texts_of holds (a ∷ to_cut) [] names texts e d f all zip = absurd cc
texts_of holds (a ∷ to_cut) (h ∷ hashed) [] texts e d f all zip = absurd cc
texts_of holds (a ∷ to_cut) (h ∷ hashed) (n ∷ names) [] e d f all zip = absurd zip
texts_of holds (a ∷ to_cut) (h ∷ hashed) (n ∷ names) (t ∷ texts) e d f all zip =
    let name : a.name.now ≡ h.name.now = cc in
    let digest : a.digest ≡ h.digest = cc in
    let said : h.name.now ≡ n.now = cc in
    let names_on : map (λ (one : ToCut). one.name.now) to_cut ≡ map (λ (one : Hashed). one.name.now) hashed = cc in
    let digests_on : map (λ (one : ToCut). one.digest) to_cut ≡ map (λ (one : Hashed). one.digest) hashed = cc in
    let later : map (λ (one : Hashed). one.name.now) hashed ≡ map (λ (each : Bor (List ℕ)). each.now) names = cc in
    ((ap holds (name ∙ said) ∙ zip.0, digest ∙ all.0 t (ap holds said ∙ zip.0)), texts_of holds to_cut hashed names texts names_on digests_on later all.1 zip.1)
