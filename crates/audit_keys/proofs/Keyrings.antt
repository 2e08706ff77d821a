-- A map whose keys are bytes, and a map of such maps, after a change at one key.
use Rattle.std.proofs.Common.{◌≡◌, ℕ, Bool, true, false, cond, List, [], Option, Some, None, Ordering, refl, sym, ap, subst, ◌∙◌}
use mathlib.Core.Logic.{⊎_elim}
use Rattle.std.specs.Prelude.{◌&&◌}
use Rattle.std.specs.Option.{option_and_then}
use Rattle.std.specs.Str.{bytes_eq}
use Rattle.std.specs.Global.{Vec}
use Rattle.std.specs.Ordering.{is_eq, nat_cmp}
use Rattle.std.specs.Cmp.{eq_by_cmp_equiv}
use Rattle.std.specs.Cmp.Lexicographic.{slice_cmp, nat_list_cmp_total, nat_list_eq_equiv}
use Rattle.std.specs.BTreeMap.{BTreeMap, get_by, UpdatesBy}
use Rattle.std.specs.Map.{lookup, IsKeyTest, AreApart, KeepsOthers}
use Rattle.audit_keys.specs.declared.keys.Keys.{Keys}
use Rattle.audit_keys.specs.Keys.{KeyFor}
use Rattle.std.proofs.lemmas.Bool.{cases_Bool, cond-true, cond-false}
use Rattle.std.proofs.lemmas.Map.Text.{is_eq-slice_cmp}
use Rattle.std.proofs.lemmas.Slice.Eq.{bytes_eq-Decides}

abbrev pub by_bytes : List ℕ → Vec ℕ → Ordering
by_bytes bytes k = slice_cmp nat_cmp bytes k.items

abbrev pub vec_cmp : Vec ℕ → Vec ℕ → Ordering
vec_cmp x y = slice_cmp nat_cmp x.items y.items

apart : (bs cs ks : List ℕ) → bytes_eq bs cs ≡ false → is_eq (slice_cmp nat_cmp bs ks) ≡ true → is_eq (slice_cmp nat_cmp cs ks) ≡ false
apart bs cs ks n y =
    is_eq-slice_cmp cs ks ∙ nat_list_eq_equiv.symm cs ks ∙ sym (nat_list_eq_equiv.congr bs ks cs (sym (is_eq-slice_cmp bs ks) ∙ y)) ∙ n

others : {K X : Type 0} (eq : K → K → Bool) (test : K → Bool) (old new : List (K × X)) → KeepsOthers eq test old new →
    (other : K → Bool) → IsKeyTest eq other → AreApart test other → lookup other new ≡ lookup other old
unfolding KeepsOthers
others eq test old new h = h

-- what a change at some bytes leaves at any bytes
pub changed : {X : Type 0} (bs : List ℕ) (m n : BTreeMap (Vec ℕ) X) (w : Option X) → UpdatesBy vec_cmp (by_bytes bs) m n w →
    (cs : List ℕ) → get_by (by_bytes cs) n ≡ cond (bytes_eq bs cs) w (get_by (by_bytes cs) m)
changed bs m n w h cs =
    ⊎_elim
    (λ y. subst (λ l. get_by (by_bytes l) n ≡ w) ((bytes_eq-Decides bs cs).0 y) h.1 ∙ sym (cond-true (bytes_eq bs cs) w (get_by (by_bytes cs) m) y))
    (λ e. others _ _ _ _ h.3 _ (λ x y. (eq_by_cmp_equiv nat_list_cmp_total).congr cs x.items y.items) (λ k. apart bs cs k.items e)
    ∙ sym (cond-false (bytes_eq bs cs) w (get_by (by_bytes cs) m) e))
    (cases_Bool (bytes_eq bs cs))

and_true : (x : Bool) → x && true ≡ x
and_true true = refl
and_true false = refl

and_false : (x : Bool) → x && false ≡ false
and_false true = refl
and_false false = refl

-- a change in one of the inner maps is a change at both keys
nested : {A V : Type 0} (f g : List ℕ → Option A) (inside : A → List ℕ → Option V) (user realm : List ℕ) (users : A) (key : V) →
    ((r : List ℕ) → g r ≡ cond (bytes_eq realm r) (Some users) (f r)) →
    ((u : List ℕ) → inside users u ≡ cond (bytes_eq user u) (Some key) (option_and_then (λ a. inside a u) (f realm))) →
    (u r : List ℕ) → option_and_then (λ a. inside a u) (g r) ≡ cond (bytes_eq user u && bytes_eq realm r) (Some key) (option_and_then (λ a. inside a u) (f r))
nested f g inside user realm users key outer inner u r =
    let find = option_and_then (λ a. inside a u) in
    ⊎_elim
    (λ y.
    ap find (outer r ∙ cond-true (bytes_eq realm r) (Some users) (f r) y)
    ∙ inner u
    ∙ ap (λ (q : List ℕ). cond (bytes_eq user u) (Some key) (find (f q))) ((bytes_eq-Decides realm r).0 y)
    ∙ ap (λ b. cond b (Some key) (find (f r))) (sym (ap (λ b. bytes_eq user u && b) y ∙ and_true (bytes_eq user u))))
    (λ n.
    ap find (outer r ∙ cond-false (bytes_eq realm r) (Some users) (f r) n)
    ∙ ap (λ b. cond b (Some key) (find (f r))) (sym (ap (λ b. bytes_eq user u && b) n ∙ and_false (bytes_eq user u))))
    (cases_Bool (bytes_eq realm r))

abbrev Users : Type 0
Users = BTreeMap (Vec ℕ) Keys

abbrev find_in : Users → List ℕ → Option Keys
find_in users user = get_by (by_bytes user) users

abbrev pub find : BTreeMap (Vec ℕ) Users → KeyFor
find realms user realm = option_and_then (λ users. find_in users user) (get_by (by_bytes realm) realms)

-- a user more of a realm that was there
pub in_old_realm : (m n : BTreeMap (Vec ℕ) Users) (old new : Users) (user realm : List ℕ) (key : Keys) →
    Some old ≡ get_by (by_bytes realm) m → UpdatesBy vec_cmp (by_bytes user) old new (Some key) → UpdatesBy vec_cmp (by_bytes realm) m n (Some new) →
    (u r : List ℕ) → find n u r ≡ cond (bytes_eq user u && bytes_eq realm r) (Some key) (find m u r)
in_old_realm m n old new user realm key was inner outer =
    nested (λ r. get_by (by_bytes r) m) (λ r. get_by (by_bytes r) n) find_in user realm new key (changed realm m n (Some new) outer)
    (λ u. changed user old new (Some key) inner u ∙ ap (λ (o : Option Users). cond (bytes_eq user u) (Some key) (option_and_then (λ a. find_in a u) o)) was)

-- the first user of a realm
pub in_new_realm : (m n : BTreeMap (Vec ℕ) Users) (empty new : Users) (user realm : List ℕ) (key : Keys) →
    None ≡ get_by (by_bytes realm) m → empty.entries ≡ [] → UpdatesBy vec_cmp (by_bytes user) empty new (Some key) → UpdatesBy vec_cmp (by_bytes realm) m n (Some new) →
    (u r : List ℕ) → find n u r ≡ cond (bytes_eq user u && bytes_eq realm r) (Some key) (find m u r)
in_new_realm m n empty new user realm key was none inner outer =
    nested (λ r. get_by (by_bytes r) m) (λ r. get_by (by_bytes r) n) find_in user realm new key (changed realm m n (Some new) outer)
    (λ u. changed user empty new (Some key) inner u
    ∙ ap (λ (es : List (Vec ℕ × Keys)). cond (bytes_eq user u) (Some key) (lookup (λ k. is_eq (by_bytes u k)) es)) none
    ∙ ap (λ (o : Option Users). cond (bytes_eq user u) (Some key) (option_and_then (λ a. find_in a u) o)) was)
