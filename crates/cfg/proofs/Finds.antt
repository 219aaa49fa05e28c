-- What an iterator's `find` gives, where the edges that are still to be read can be seen.
use Rattle.std.proofs.Common.{◌≡◌, Bool, true, false, cond, List, [], ◌∷◌, Some, None, Option, sym, ap, ◌∙◌, subst}
use Rattle.std.specs.Fn.{Mut, CalledAt}
use Rattle.std.specs.Iterator.{ActsAsAt, FindsItem, Yields, YieldsFirst}
use Rattle.std.specs.List.{FoldsTo, slice_get}
use Rattle.std.specs.Borrow.{Bor}
use Rattle.std.specs.Prelude.{IfSome}
use Rattle.kinds.specs.declared.edge.Edge.{Edge}
use Rattle.kinds.specs.declared.edge.EdgeType.{EdgeType}
use Rattle.cfg.specs.Loops.{first_fit, after_fit}

-- what is read first is the first
pub first_read : {S : Type 0} (view : S → List Edge) (s t : S) (r : Option Edge) → YieldsFirst view s r t → r ≡ slice_get (view s) 0
first_read view s t None k = ap (λ x. slice_get x 0) (sym k.0)
first_read view s t (Some e) k = ap (λ x. slice_get x 0) (sym k)

module _ {S F : Type 0} (view : S → List Edge) (g : Mut F (Bor Edge × Unit {0}) Bool) (test : EdgeType → Bool) where
  abbrev Found : List Edge → Option Edge → List Edge → Type 0
  Found l r m = (r ≡ first_fit test l) × (m ≡ after_fit test l)

  none : (l m : List Edge) → l ≡ [] → m ≡ [] → Found l None m
  none l m q h = (ap (first_fit test) (sym q), h ∙ ap (after_fit test) (sym q))

  here : (l m : List Edge) (e : Edge) → l ≡ e ∷ m → true ≡ test e.kind → Found l (Some e) m
  here l m e q h = (
    ap (λ b. cond b (Some e) (first_fit test m)) h ∙ ap (first_fit test) (sym q),
    ap (λ b. cond b m (after_fit test m)) h ∙ ap (after_fit test) (sym q),
  )

  passed : (l m n : List Edge) (e : Edge) (r : Option Edge) → l ≡ e ∷ m → false ≡ test e.kind → Found m r n → Found l r n
  passed l m n e r q h k = (
    k.0 ∙ ap (λ b. cond b (Some e) (first_fit test m)) h ∙ ap (first_fit test) (sym q),
    k.1 ∙ ap (λ b. cond b m (after_fit test m)) h ∙ ap (after_fit test) (sym q),
  )

  module _ (f : F) (acts : ActsAsAt g f (λ e. test e.kind)) where
    after_all : (xs : List Edge) (s t u : S) (r : Option Edge) (f' : F) → Yields (YieldsFirst view) s xs t → YieldsFirst view t r u
        → FoldsTo (λ p x q. CalledAt g p x false q) f xs f' → IfSome r (λ x. (h : F) × CalledAt g f' x true h)
        → Found (view s) r (view u)
    after_all [] s t u None f' y k c o = none (view s) (view u) (ap view y ∙ k.0) k.1
    after_all [] s t u (Some e) f' y k c o =
        let called = subst (λ p. CalledAt g p e true o.0) (sym c) o.1 in
        here (view s) (view u) e (ap view y ∙ k) (acts e true o.0 called).1
    after_all (x ∷ xs) s t u r f' y k c o =
        let a = acts x false c.0 c.1 in
        let folds = subst (λ p. FoldsTo (λ p x q. CalledAt g p x false q) p xs f') a.0 c.2 in
        passed (view s) (view y.0) (view u) x r y.1 a.1 (after_all xs y.0 t u r f' y.2 k folds o)

    pub found : (s : S) (r : Option Edge) (u : S) → FindsItem (YieldsFirst view) g s f r u
        → (r ≡ first_fit test (view s)) × (view u ≡ after_fit test (view s))
    found s r u h = after_all h.0 s h.2.0 u r h.1 h.2.1 h.2.2 h.3 h.4
