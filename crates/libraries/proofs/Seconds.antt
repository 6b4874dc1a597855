-- Second declarations are those that take a name that is taken.
use Rattle.std.proofs.Common.{◌≡◌, ℕ, Bool, true, false, ◌&&◌, ◌||◌, List, [], ◌∷◌, ◌++◌, Some, None, bytes_eq, refl, sym, ap, ◌∙◌}
use Rattle.std.specs.Prelude.{if◌then◌else◌}
use Rattle.std.specs.Cmp.Lexicographic.{same_text}
use Rattle.std.specs.List.{list_any}
use Rattle.std.proofs.lemmas.List.Folds.{list_any-append}
use Rattle.element_terms.specs.declared.declarations.DeclaredKind.{DeclaredKind}
use Rattle.element_terms.specs.declared.declarations.DeclaredKind.TheVariants.{Function, Getter, Setter, Variable, FinalVariable, Class, Mixin, Typedef}
use Rattle.directives.specs.declared.declared.DeclaredName.{DeclaredName}
use Rattle.directives.specs.declared.directive.Directive.{Directive}
use Rattle.directives.specs.declared.directive.DirectiveForm.{DirectiveForm}
use Rattle.directives.specs.declared.directive.DirectiveForm.TheVariants as form
use Rattle.libraries.specs.declared.duplicates.Taken.{Taken}
use Rattle.libraries.specs.Duplicates.{is_duplicate, no_names, taken_after, takes_name, takes_setter, with_both, with_declared, with_prefix, with_prefixes}
use Rattle.libraries.specs.Files.{with_text}
use Rattle.libraries.specs.Laws.{DuplicatesAreSecond, clash, has_prefix}

or_none : (a : Bool) → (a || false) ≡ a
or_none true = refl
or_none false = refl

or_assoc : (a b c : Bool) → ((a || b) || c) ≡ (a || (b || c))
or_assoc true b c = refl
or_assoc false b c = refl

-- one text more is among them, or was
has_more : (x y : List ℕ) (ts : List (List ℕ)) → list_any (bytes_eq x) (with_text ts y) ≡ (list_any (bytes_eq x) ts || bytes_eq x y)
has_more x y ts = at (list_any (bytes_eq y) ts) refl (bytes_eq x y) refl
  where
    at : (there : Bool) → list_any (bytes_eq y) ts ≡ there → (same : Bool) → bytes_eq x y ≡ same → list_any (bytes_eq x) (if there then ts else ts ++ y ∷ []) ≡ (list_any (bytes_eq x) ts || bytes_eq x y)
    at true t true e =
        let one : x ≡ y = same_text x y (sym e) in
        let among : list_any (bytes_eq x) ts ≡ true = ap (λ (z : List ℕ). list_any (bytes_eq z) ts) one ∙ t in
        among ∙ sym (ap (λ (b : Bool). b || bytes_eq x y) among)
    at true t false e = sym (or_none (list_any (bytes_eq x) ts)) ∙ ap (λ (b : Bool). list_any (bytes_eq x) ts || b) (sym e)
    at false t same e = list_any-append (bytes_eq x) ts (y ∷ []) ∙ ap (λ (b : Bool). list_any (bytes_eq x) ts || b) (or_none (bytes_eq x y))

-- it may be left out
has_more_if : (takes : Bool) (x y : List ℕ) (ts : List (List ℕ)) → list_any (bytes_eq x) (if takes then with_text ts y else ts) ≡ (list_any (bytes_eq x) ts || (takes && bytes_eq x y))
has_more_if true x y ts = has_more x y ts
has_more_if false x y ts = sym (or_none (list_any (bytes_eq x) ts))

-- a name that is taken was taken before, or is taken by both
both_take : (a b n q : Bool) → (a && (n || (b && q))) ≡ ((a && n) || (q && (a && b)))
both_take true true true true = refl
both_take true true true false = refl
both_take true true false true = refl
both_take true true false false = refl
both_take true false true true = refl
both_take true false true false = refl
both_take true false false true = refl
both_take true false false false = refl
both_take false b n true = refl
both_take false b n false = refl

either : (x y q u v : Bool) → ((x || (q && u)) || (y || (q && v))) ≡ ((x || y) || (q && (u || v)))
either true y q u v = refl
either false true true true v = refl
either false true true false v = refl
either false true false u v = refl
either false false true u v = refl
either false false false u v = refl

-- what is taken behind one more declaration
one_more : (t : Taken) (e d : DeclaredName) → is_duplicate (with_declared t e) d ≡ (is_duplicate t d || clash d e)
one_more t e d =
    let n = list_any (bytes_eq d.name) t.names in
    let s = list_any (bytes_eq d.name) t.setters in
    let q = bytes_eq d.name e.name in
    let names = has_more_if (takes_name e.kind) d.name e.name t.names in
    let setters = has_more_if (takes_setter e.kind) d.name e.name t.setters in
    (λ i. (takes_name d.kind && names i) || (takes_setter d.kind && setters i))
    ∙ ((λ i. both_take (takes_name d.kind) (takes_name e.kind) n q i || both_take (takes_setter d.kind) (takes_setter e.kind) s q i)
    ∙ either (takes_name d.kind && n) (takes_setter d.kind && s) q (takes_name d.kind && takes_name e.kind) (takes_setter d.kind && takes_setter e.kind))

-- and behind several
more_declared : (t : Taken) (earlier : List DeclaredName) (d : DeclaredName) → is_duplicate (taken_after t earlier) d ≡ (is_duplicate t d || list_any (clash d) earlier)
more_declared t [] d = sym (or_none (is_duplicate t d))
more_declared t (e ∷ more) d =
    more_declared (with_declared t e) more d
    ∙ (ap (λ (b : Bool). b || list_any (clash d) more) (one_more t e d) ∙ or_assoc (is_duplicate t d) (clash d e) (list_any (clash d) more))

either_name : (n s q : Bool) → ((n || q) || (s || q)) ≡ ((n || s) || q)
either_name true s q = refl
either_name false true true = refl
either_name false true false = refl
either_name false false true = refl
either_name false false false = refl

name_alone : (n q : Bool) → ((n || q) || false) ≡ ((n || false) || q)
name_alone true q = refl
name_alone false true = refl
name_alone false false = refl

-- each declaration takes one of the two names
prefix_taken : (kind : DeclaredKind) (n s q : Bool) → ((takes_name kind && (n || q)) || (takes_setter kind && (s || q))) ≡ (((takes_name kind && n) || (takes_setter kind && s)) || q)
prefix_taken Function n s q = either_name n s q
prefix_taken Getter n s q = name_alone n q
prefix_taken Setter n s q = refl
prefix_taken Variable n s q = either_name n s q
prefix_taken FinalVariable n s q = name_alone n q
prefix_taken Class n s q = either_name n s q
prefix_taken Mixin n s q = either_name n s q
prefix_taken Typedef n s q = either_name n s q

-- what is taken behind one more prefix
one_prefix : (t : Taken) (prefix : List ℕ) (d : DeclaredName) → is_duplicate (with_both t (Some prefix)) d ≡ (is_duplicate t d || bytes_eq d.name prefix)
one_prefix t prefix d =
    let names = has_more d.name prefix t.names in
    let setters = has_more d.name prefix t.setters in
    (λ i. (takes_name d.kind && names i) || (takes_setter d.kind && setters i))
    ∙ prefix_taken d.kind (list_any (bytes_eq d.name) t.names) (list_any (bytes_eq d.name) t.setters) (bytes_eq d.name prefix)

one_directive : (t : Taken) (said : DirectiveForm) (d : DeclaredName) → is_duplicate (with_prefix t said) d ≡ (is_duplicate t d || has_prefix d.name said)
one_directive t form.Library d = sym (or_none (is_duplicate t d))
one_directive t (form.Import uri None combinators) d = sym (or_none (is_duplicate t d))
one_directive t (form.Import uri (Some prefix) combinators) d = one_prefix t prefix d
one_directive t (form.Export uri combinators) d = sym (or_none (is_duplicate t d))
one_directive t (form.Part uri) d = sym (or_none (is_duplicate t d))
one_directive t (form.PartOf uri) d = sym (or_none (is_duplicate t d))
one_directive t (form.PartOfName name) d = sym (or_none (is_duplicate t d))

more_prefixes : (t : Taken) (directives : List Directive) (d : DeclaredName) → is_duplicate (with_prefixes t directives) d ≡ (is_duplicate t d || list_any (λ directive. has_prefix d.name directive.form) directives)
more_prefixes t [] d = sym (or_none (is_duplicate t d))
more_prefixes t (directive ∷ more) d =
    more_prefixes (with_prefix t directive.form) more d
    ∙ (ap (λ (b : Bool). b || list_any (λ directive. has_prefix d.name directive.form) more) (one_directive t directive.form d)
    ∙ or_assoc (is_duplicate t d) (has_prefix d.name directive.form) (list_any (λ directive. has_prefix d.name directive.form) more))

none_taken : (a b : Bool) → ((a && false) || (b && false)) ≡ false
none_taken true true = refl
none_taken true false = refl
none_taken false true = refl
none_taken false false = refl

pub duplicates_are_second : DuplicatesAreSecond
duplicates_are_second directives earlier d =
    more_declared (with_prefixes no_names directives) earlier d
    ∙ ap (λ (b : Bool). b || list_any (clash d) earlier)
    (more_prefixes no_names directives d
    ∙ ap (λ (b : Bool). b || list_any (λ directive. has_prefix d.name directive.form) directives) (none_taken (takes_name d.kind) (takes_setter d.kind)))
