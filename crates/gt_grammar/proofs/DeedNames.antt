-- Where the names are declared that deeds declare: no two have one place, and functions stand in the order of their declarations.
use Rattle.std.proofs.Common.{◌≡◌, ◌≢◌, ◌⊎◌, inl, inr, ℕ, zero, suc, ◌+◌, ◌<◌, Bool, true, false, not, cond, List, [], ◌∷◌, ◌++◌, map, slice_get, Option, Some, None, IsTrue, refl, sym, ap, subst, ◌∙◌, arith, codes}
use Rattle.std.specs.List.{All}
use Rattle.std.specs.Str.{bytes_eq}
use Rattle.std.proofs.lemmas.Slice.Eq.{bytes_eq-Decides}
use Rattle.std.proofs.lemmas.List.Elements.{All-cons}
use Rattle.std.proofs.lemmas.Bool.{lt-ltb, both_ways, and_parts}
use Rattle.gt_model.specs.declared.script.Func.{Func}
use Rattle.gt_model.specs.declared.script.Decl.{Decl}
use Rattle.gt_model.specs.declared.script.What.{What}
use Rattle.gt_model.specs.Good.{HasNames, is_name, function_places}
use Rattle.gt_table.specs.declared.form.Kind.{Kind}
use Rattle.gt_table.specs.Forms.{is_kind_function}
use Rattle.gt_names.specs.declared.names.Declared.{Declared}
use Rattle.gt_names.specs.Names.{Names, is_free_name, find}
use Rattle.gt_grammar.specs.declared.progress.OpenBlock.{OpenBlock}
use Rattle.gt_grammar.specs.declared.progress.Held.{Held}
use Rattle.gt_grammar.specs.Faults.{holding, block_ended, case_added, default_added}
use Rattle.gt_grammar.specs.Deeds.{Deed, declares, opens, does, loops, selects, chooses, defaults, closes, decl_of, func_of, decls_in, code_in, funcs_in}
use Rattle.gt_grammar.proofs.Rightly.{kind_in, place_of, is_declared_before, names_in, Starts, Right, opened, chosen_in}
use Rattle.gt_grammar.proofs.KindTests.{no_function, started}

abbrev pub declared : Kind → ℕ → ℕ → Declared
declared kind n f = record { kind = kind; place = n; func = f }

-- a name is declared in front of a place, or from there on
abbrev FoundFrom : Names → ℕ → ℕ → List Deed → Type 0
FoundFrom names n f deeds = (q : List ℕ) → (names q ≡ find (names_in n f deeds) q) ⊎ ((e : Declared) × (names q ≡ Some e) × (e.place < n))

further : (names : Names) (q : List ℕ) (b : Bool) (x : Declared) (more : Option Declared) (n : ℕ) → x.place ≡ n → (names q ≡ cond b (Some x) more) ⊎ ((e : Declared) × (names q ≡ Some e) × (e.place < n)) → (names q ≡ more) ⊎ ((e : Declared) × (names q ≡ Some e) × (e.place < n + 1))
further names q true x more n p (inl h) = inr (x, h, omega (arith, p))
further names q false x more n p (inl h) = inl h
further names q b x more n p (inr w) = inr (w.0, w.1, omega (arith, w.2))

here-by : (o : Option Declared) (x : Declared) (more : Option Declared) (b : Bool) (n : ℕ) → b ≡ true → is_declared_before n o ≡ false → (o ≡ cond b (Some x) more) ⊎ ((e : Declared) × (o ≡ Some e) × (e.place < n)) → o ≡ Some x
here-by o x more true n b first (inl h) = h
here-by o x more false n b first (inl h) = cc
here-by o x more b' n b first (inr w) = absurd (both_ways (is_declared_before n o) first (ap (is_declared_before n) w.1 ∙ lt-ltb w.0.place n w.2))

same-name : (q : List ℕ) → bytes_eq q q ≡ true
same-name q = (bytes_eq-Decides q q).1 refl

-- each name is declared where its deed stands
abbrev pub Placed : Names → ℕ → ℕ → List Deed → Type 0
Placed names n f [] = Unit {0}
Placed names n f (declares name what ∷ rest) = (names name ≡ Some (declared (kind_in what) n f)) × Placed names (n + 1) f rest
Placed names n f (opens name decl ∷ rest) = (names name ≡ Some (declared Kind.Function n f)) × (decl ≡ n) × Placed names (n + 1) (f + 1) rest
Placed names n f (does instr ∷ rest) = Placed names n f rest
Placed names n f (loops count ∷ rest) = Placed names n f rest
Placed names n f (selects ∷ rest) = Placed names n f rest
Placed names n f (chooses kind ∷ rest) = Placed names n f rest
Placed names n f (defaults ∷ rest) = Placed names n f rest
Placed names n f (closes ∷ rest) = Placed names n f rest

placed-from : (names : Names) (deeds : List Deed) (inside : Bool) (blocks : List OpenBlock) (n f k : ℕ) → Right names inside blocks n f k deeds → FoundFrom names n f deeds → Placed names n f deeds
placed-from names [] inside blocks n f k r w = tt
placed-from names (declares name what ∷ rest) inside blocks n f k r w =
    let x : Declared = declared (kind_in what) n f in (
      here-by (names name) x (find (names_in (n + 1) f rest) name) (bytes_eq name name) n (same-name name) r.2.first (w name),
      placed-from names rest false blocks (n + 1) f k r.5 (λ q. further names q (bytes_eq q name) x (find (names_in (n + 1) f rest) q) n refl (w q)),
    )
placed-from names (opens name decl ∷ rest) inside blocks n f k r w =
    let x : Declared = declared Kind.Function n f in
    let here : names name ≡ Some x = here-by (names name) x (find (names_in (n + 1) (f + 1) rest) name) (bytes_eq name name) n (same-name name) r.3.first (w name) in (
      here,
      r.4 ∙ ap place_of here,
      placed-from names rest true [] (n + 1) (f + 1) k r.6 (λ q. further names q (bytes_eq q name) x (find (names_in (n + 1) (f + 1) rest) q) n refl (w q)),
    )
placed-from names (does i ∷ rest) inside blocks n f k r w = placed-from names rest true (holding Held.Entered blocks) n f (k + 1) r.3 w
placed-from names (loops count ∷ rest) inside blocks n f k r w = placed-from names rest true (opened count blocks) n f k r.3 w
placed-from names (selects ∷ rest) inside blocks n f k r w = placed-from names rest true (chosen_in blocks) n f (k + 1) r.3 w
placed-from names (chooses kind ∷ rest) inside blocks n f k r w = placed-from names rest true (case_added r.2.0 blocks) n f k r.2.2 w
placed-from names (defaults ∷ rest) inside blocks n f k r w = placed-from names rest true (default_added blocks) n f k r.2 w
placed-from names (closes ∷ rest) inside [] n f k r w = placed-from names rest false [] n f k r.1 w
placed-from names (closes ∷ rest) inside (inner ∷ outer) n f k r w = placed-from names rest true (block_ended (inner ∷ outer)) n f k r.2 w

pub placed : (names : Names) (deeds : List Deed) → names ≡ find (names_in 0 0 deeds) → Right names false [] 0 0 0 deeds → Placed names 0 0 deeds
placed names deeds are r = placed-from names deeds false [] 0 0 0 r (λ q. inl (ap (λ (m : Names). m q) are))

-- ---- names

All-none : {X : Type 0} (P : X → Type 0) → All P []
All-none P = λ k d h. absurd (omega arith)

pub free-is_name : (word : List ℕ) → is_free_name word ≡ true → is_name word ≡ true
free-is_name word h = (and_parts (is_name word) (not (bytes_eq word (codes "root"))) h).0

not-true : (b : Bool) → not b ≡ true → b ≡ true → ⊥
not-true true h e = cc
not-true false h e = cc

free-not_root : (word : List ℕ) → is_free_name word ≡ true → word ≢ codes "root"
free-not_root word h = λ e.
    not-true (bytes_eq word (codes "root")) (and_parts (is_name word) (not (bytes_eq word (codes "root"))) h).1 ((bytes_eq-Decides word (codes "root")).1 e)

each-name : (names : Names) (P : Decl → Type 0) → ((d : Decl) → is_free_name d.name ≡ true → P d) → (deeds : List Deed) (inside : Bool) (blocks : List OpenBlock) (n f k : ℕ) → Right names inside blocks n f k deeds → All P (decls_in deeds)
each-name names P by [] inside blocks n f k r = All-none P
each-name names P by (declares name what ∷ rest) inside blocks n f k r =
    All-cons P (decl_of name what) (decls_in rest) (by (decl_of name what) r.2.free) (each-name names P by rest false blocks (n + 1) f k r.5)
each-name names P by (opens name decl ∷ rest) inside blocks n f k r =
    All-cons P (decl_of name What.Function) (decls_in rest) (by (decl_of name What.Function) r.3.free) (each-name names P by rest true [] (n + 1) (f + 1) k r.6)
each-name names P by (does i ∷ rest) inside blocks n f k r = each-name names P by rest true (holding Held.Entered blocks) n f (k + 1) r.3
each-name names P by (loops count ∷ rest) inside blocks n f k r = each-name names P by rest true (opened count blocks) n f k r.3
each-name names P by (selects ∷ rest) inside blocks n f k r = each-name names P by rest true (chosen_in blocks) n f (k + 1) r.3
each-name names P by (chooses kind ∷ rest) inside blocks n f k r = each-name names P by rest true (case_added r.2.0 blocks) n f k r.2.2
each-name names P by (defaults ∷ rest) inside blocks n f k r = each-name names P by rest true (default_added blocks) n f k r.2
each-name names P by (closes ∷ rest) inside [] n f k r = each-name names P by rest false [] n f k r.1
each-name names P by (closes ∷ rest) inside (inner ∷ outer) n f k r = each-name names P by rest true (block_ended (inner ∷ outer)) n f k r.2

-- where a declaration is found by its name
record IsAt (names : Names) (name : List ℕ) (place : ℕ) : Type 0 where
  found : Declared
  known : names name ≡ Some found
  at : found.place ≡ place

decl_at : (names : Names) (deeds : List Deed) (n f i : ℕ) (d : Decl) → Placed names n f deeds → slice_get (decls_in deeds) i ≡ Some d → IsAt names d.name (n + i)
decl_at names [] n f i d p e = cc
decl_at names (declares name what ∷ rest) n f zero d p e =
    let same : name ≡ d.name = ap (λ (o : Option Decl). elim o [ None ↦ [] | Some x ↦ x.name ]) e in
    record { found = declared (kind_in what) n f; known = subst (λ q. names q ≡ Some (declared (kind_in what) n f)) same p.0; at = omega arith }
decl_at names (declares name what ∷ rest) n f (suc i) d p e =
    let more : IsAt names d.name (n + 1 + i) = decl_at names rest (n + 1) f i d p.1 e in
    record { found = more.found; known = more.known; at = omega (arith, more.at) }
decl_at names (opens name decl ∷ rest) n f zero d p e =
    let same : name ≡ d.name = ap (λ (o : Option Decl). elim o [ None ↦ [] | Some x ↦ x.name ]) e in
    record { found = declared Kind.Function n f; known = subst (λ q. names q ≡ Some (declared Kind.Function n f)) same p.0; at = omega arith }
decl_at names (opens name decl ∷ rest) n f (suc i) d p e =
    let more : IsAt names d.name (n + 1 + i) = decl_at names rest (n + 1) (f + 1) i d p.2 e in
    record { found = more.found; known = more.known; at = omega (arith, more.at) }
decl_at names (does instr ∷ rest) n f i d p e = decl_at names rest n f i d p e
decl_at names (loops count ∷ rest) n f i d p e = decl_at names rest n f i d p e
decl_at names (selects ∷ rest) n f i d p e = decl_at names rest n f i d p e
decl_at names (chooses kind ∷ rest) n f i d p e = decl_at names rest n f i d p e
decl_at names (defaults ∷ rest) n f i d p e = decl_at names rest n f i d p e
decl_at names (closes ∷ rest) n f i d p e = decl_at names rest n f i d p e

one-place : (o : Option Declared) (x y : Declared) → o ≡ Some x → o ≡ Some y → x.place ≡ y.place
one-place o x y e h = let same : x ≡ y = cc in ap (λ (z : Declared). z.place) same

differ : (names : Names) (deeds : List Deed) → Placed names 0 0 deeds → (i j : ℕ) (a b : Decl) → slice_get (decls_in deeds) i ≡ Some a → slice_get (decls_in deeds) j ≡ Some b → a.name ≡ b.name → i ≡ j
differ names deeds p i j a b e h same =
    let x : IsAt names a.name (0 + i) = decl_at names deeds 0 0 i a p e in
    let y : IsAt names b.name (0 + j) = decl_at names deeds 0 0 j b p h in
    let one : x.found.place ≡ y.found.place = one-place (names b.name) x.found y.found (ap names (sym same) ∙ x.known) y.known in
    omega (arith, one, x.at, y.at)

pub has_names : (names : Names) (deeds : List Deed) → Right names false [] 0 0 0 deeds → Placed names 0 0 deeds → HasNames (decls_in deeds)
has_names names deeds r p = record {
  each = each-name names (λ (d : Decl). IsTrue (is_name d.name)) (λ d h. free-is_name d.name h) deeds false [] 0 0 0 r;
  none_is_root = each-name names (λ (d : Decl). d.name ≢ codes "root") (λ d h. free-not_root d.name h) deeds false [] 0 0 0 r;
  differ = differ names deeds p;
}

-- ---- functions

-- the functions are the declarations of functions
pub functions_are : (names : Names) (deeds : List Deed) (inside : Bool) (blocks : List OpenBlock) (n f k : ℕ) → Right names inside blocks n f k deeds → Placed names n f deeds → map (λ (g : Func). g.decl) (funcs_in deeds) ≡ function_places n (decls_in deeds)
functions_are names [] inside blocks n f k r p = refl
functions_are names (declares name what ∷ rest) inside blocks n f k r p =
    functions_are names rest false blocks (n + 1) f k r.5 p.1 ∙ ap (λ b. cond b (n ∷ []) [] ++ function_places (n + 1) (decls_in rest)) (sym (no_function names what r.3))
functions_are names (opens name decl ∷ rest) inside blocks n f k r p =
    ap (λ x. x ∷ map (λ (g : Func). g.decl) (funcs_in rest)) p.1 ∙ ap (λ xs. n ∷ xs) (functions_are names rest true [] (n + 1) (f + 1) k r.6 p.2)
functions_are names (does instr ∷ rest) inside blocks n f k r p = functions_are names rest true (holding Held.Entered blocks) n f (k + 1) r.3 p
functions_are names (loops count ∷ rest) inside blocks n f k r p = functions_are names rest true (opened count blocks) n f k r.3 p
functions_are names (selects ∷ rest) inside blocks n f k r p = functions_are names rest true (chosen_in blocks) n f (k + 1) r.3 p
functions_are names (chooses kind ∷ rest) inside blocks n f k r p = functions_are names rest true (case_added r.2.0 blocks) n f k r.2.2 p
functions_are names (defaults ∷ rest) inside blocks n f k r p = functions_are names rest true (default_added blocks) n f k r.2 p
functions_are names (closes ∷ rest) inside [] n f k r p = functions_are names rest false [] n f k r.1 p
functions_are names (closes ∷ rest) inside (inner ∷ outer) n f k r p = functions_are names rest true (block_ended (inner ∷ outer)) n f k r.2 p

-- ---- where a name leads

-- where the function is that a declaration names
pub record HasFunc (funcs : List Func) (f : ℕ) (d : Declared) : Type 0 where
  pub at : ℕ
  pub is : d.func ≡ f + at
  pub func : Func
  pub there : slice_get funcs at ≡ Some func
  pub decl : func.decl ≡ d.place

-- where a name that is found is declared
pub record Found (decls : List Decl) (funcs : List Func) (n f : ℕ) (q : List ℕ) (d : Declared) : Type 0 where
  pub at : ℕ
  pub place : d.place ≡ n + at
  pub decl : Decl
  pub there : slice_get decls at ≡ Some decl
  pub name : decl.name ≡ q
  pub kind : kind_in decl.what ≡ d.kind
  pub func : is_kind_function d.kind ≡ true → HasFunc funcs f d

starts-no_function : (names : Names) (what : What) → Starts names what → is_kind_function (kind_in what) ≡ true → ⊥
starts-no_function names what s h = both_ways (is_kind_function (kind_in what)) (started names what s) h

further-func : (g : Func) (funcs : List Func) (f : ℕ) (d : Declared) → HasFunc funcs (f + 1) d → HasFunc (g ∷ funcs) f d
further-func g funcs f d h = record { at = suc h.at; is = omega (arith, h.is); func = h.func; there = h.there; decl = h.decl }

found-further : (x : Decl) (decls : List Decl) (funcs funcs' : List Func) (n f f' : ℕ) (q : List ℕ) (d : Declared)
    → (HasFunc funcs f' d → HasFunc funcs' f d) → Found decls funcs (n + 1) f' q d → Found (x ∷ decls) funcs' n f q d
found-further x decls funcs funcs' n f f' q d by w = record {
  at = suc w.at;
  place = omega (arith, w.place);
  decl = w.decl;
  there = w.there;
  name = w.name;
  kind = w.kind;
  func = λ t. by (w.func t);
}

-- the declaration that has the name comes first, or another one
found-by : (decls : List Decl) (funcs : List Func) (n f : ℕ) (q name : List ℕ) (x d : Declared) (more : Option Declared) (b : Bool)
    → bytes_eq q name ≡ b → (x ≡ d → q ≡ name → Found decls funcs n f q d) → (more ≡ Some d → Found decls funcs n f q d)
    → cond b (Some x) more ≡ Some d → Found decls funcs n f q d
found-by decls funcs n f q name x d more true e here later h = let same : x ≡ d = cc in here same ((bytes_eq-Decides q name).0 e)
found-by decls funcs n f q name x d more false e here later h = later h

pub found : (names : Names) (deeds : List Deed) (inside : Bool) (blocks : List OpenBlock) (n f k : ℕ) → Right names inside blocks n f k deeds → Placed names n f deeds → (q : List ℕ) (d : Declared) → find (names_in n f deeds) q ≡ Some d → Found (decls_in deeds) (funcs_in deeds) n f q d
found names [] inside blocks n f k r p q d h = cc
found names (declares name what ∷ rest) inside blocks n f k r p q d h =
    let x : Declared = declared (kind_in what) n f in
    found-by (decl_of name what ∷ decls_in rest) (funcs_in rest) n f q name x d (find (names_in (n + 1) f rest) q) (bytes_eq q name) refl
    (λ e same. record {
      at = 0;
      place = ap (λ (y : Declared). y.place) (sym e) ∙ omega arith;
      decl = decl_of name what;
      there = refl;
      name = sym same;
      kind = ap (λ (y : Declared). y.kind) e;
      func = λ t. absurd (starts-no_function names what r.3 (ap (λ (y : Declared). is_kind_function y.kind) e ∙ t));
    })
    (λ e. found-further (decl_of name what) (decls_in rest) (funcs_in rest) (funcs_in rest) n f f q d (λ w. w) (found names rest false blocks (n + 1) f k r.5 p.1 q d e))
    h
found names (opens name decl ∷ rest) inside blocks n f k r p q d h =
    let x : Declared = declared Kind.Function n f in
    let g : Func = func_of decl (code_in rest) in
    found-by (decl_of name What.Function ∷ decls_in rest) (g ∷ funcs_in rest) n f q name x d (find (names_in (n + 1) (f + 1) rest) q) (bytes_eq q name) refl
    (λ e same. record {
      at = 0;
      place = ap (λ (y : Declared). y.place) (sym e) ∙ omega arith;
      decl = decl_of name What.Function;
      there = refl;
      name = sym same;
      kind = ap (λ (y : Declared). y.kind) e;
      func = λ t. record {
        at = 0;
        is = ap (λ (y : Declared). y.func) (sym e) ∙ omega arith;
        func = g;
        there = refl;
        decl = p.1 ∙ ap (λ (y : Declared). y.place) e;
      };
    })
    (λ e. found-further (decl_of name What.Function) (decls_in rest) (funcs_in rest) (g ∷ funcs_in rest) n f (f + 1) q d (further-func g (funcs_in rest) f d) (found names rest true [] (n + 1) (f + 1) k r.6 p.2 q d e))
    h
found names (does instr ∷ rest) inside blocks n f k r p q d h = found names rest true (holding Held.Entered blocks) n f (k + 1) r.3 p q d h
found names (loops count ∷ rest) inside blocks n f k r p q d h = found names rest true (opened count blocks) n f k r.3 p q d h
found names (selects ∷ rest) inside blocks n f k r p q d h = found names rest true (chosen_in blocks) n f (k + 1) r.3 p q d h
found names (chooses kind ∷ rest) inside blocks n f k r p q d h = found names rest true (case_added r.2.0 blocks) n f k r.2.2 p q d h
found names (defaults ∷ rest) inside blocks n f k r p q d h = found names rest true (default_added blocks) n f k r.2 p q d h
found names (closes ∷ rest) inside [] n f k r p q d h = found names rest false [] n f k r.1 p q d h
found names (closes ∷ rest) inside (inner ∷ outer) n f k r p q d h = found names rest true (block_ended (inner ∷ outer)) n f k r.2 p q d h
