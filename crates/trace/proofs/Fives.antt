-- Lines of five fields. Assumes nothing.
use Rattle.std.proofs.Common.{◌≡◌, ◌≢◌, ℕ, cond, eqb, List, [], ◌∷◌, length, get_or, Err, Result, sym, ap, ◌∙◌, subst, refl, inl, inr}
use Rattle.std.proofs.Common.{arith}
use Rattle.std.specs.List.{AllByRecursion}
use Rattle.std.proofs.lemmas.Bool.{cases_Bool, eqb-false}
use Rattle.trace.specs.Traces.{FiveFields}
use Rattle.trace.specs.declared.access.Access.{Access}
use Rattle.trace.specs.declared.fault.LineFault.{LineFault}
use Rattle.trace.specs.declared.fault.LineFault.TheVariants as line_fault
use Rattle.trace.specs.Splits.{led, parts, Lacks}
use Rattle.trace.specs.Accesses.{access_in, access_of}
use Rattle.base.specs.Results.{map_err}
use Rattle.trace.proofs.Splitting.{parts_none, parts_cut, rejoined, rejoined_parts}

led_lacks : (mark b : ℕ) → b ≢ mark → (ps : List (List ℕ)) → AllByRecursion (Lacks mark) ps → AllByRecursion (Lacks mark) (led b ps)
led_lacks mark b h [] all = ((h, tt), tt)
led_lacks mark b h (p ∷ ps) all = ((h, all.0), all.1)

parts_lack : (mark : ℕ) (bs : List ℕ) → AllByRecursion (Lacks mark) (parts mark bs)
parts_lack mark [] = (tt, tt)
parts_lack mark (b ∷ bs) = elim (cases_Bool (eqb b mark)) [
  | inl e ↦ rw e (tt, parts_lack mark bs)
  | inr e ↦ rw e (led_lacks mark b (eqb-false b mark e) (parts mark bs) (parts_lack mark bs))
]

five : {X : Type 0} (xs : List X) (d : X) → length xs ≡ 5 →
    xs ≡ get_or xs 0 d ∷ (get_or xs 1 d ∷ (get_or xs 2 d ∷ (get_or xs 3 d ∷ (get_or xs 4 d ∷ []))))
five [] d e = absurd (omega arith)
five (a ∷ []) d e = absurd (omega arith)
five (a ∷ b ∷ []) d e = absurd (omega arith)
five (a ∷ b ∷ c ∷ []) d e = absurd (omega arith)
five (a ∷ b ∷ c ∷ f ∷ []) d e = absurd (omega arith)
five (a ∷ b ∷ c ∷ f ∷ g ∷ []) d e = refl
five (a ∷ b ∷ c ∷ f ∷ g ∷ h ∷ xs) d e = absurd (omega arith)

pub fields_cut : (line : List ℕ) → length (parts 44 line) ≡ 5 → FiveFields line
fields_cut line h =
    let ps = parts 44 line in
    let all = five ps [] h in
    record {
      asu = get_or ps 0 [];
      lba = get_or ps 1 [];
      size = get_or ps 2 [];
      opcode = get_or ps 3 [];
      stamp = get_or ps 4 [];
      line_is = sym (rejoined_parts 44 line) ∙ ap (rejoined 44) all;
      apart = subst (AllByRecursion (Lacks 44)) all (parts_lack 44 line);
    }

module _ {line : List ℕ} (f : FiveFields line) where
  pub fields_parts : parts 44 line ≡ f.asu ∷ (f.lba ∷ (f.size ∷ (f.opcode ∷ (f.stamp ∷ []))))
  fields_parts =
      ap (parts 44) f.line_is
      ∙ parts_cut 44 f.asu _ f.apart.0
      ∙ ap (λ ps. f.asu ∷ ps) (parts_cut 44 f.lba _ f.apart.1.0
      ∙ ap (λ ps. f.lba ∷ ps) (parts_cut 44 f.size _ f.apart.1.1.0
      ∙ ap (λ ps. f.size ∷ ps) (parts_cut 44 f.opcode _ f.apart.1.1.1.0
      ∙ ap (λ ps. f.opcode ∷ ps) (parts_none 44 f.stamp f.apart.1.1.1.1.0))))

  -- what the line asks for is what its fields ask for
  pub fields_access : (n : ℕ) → access_of n line ≡ map_err line_fault.Field (access_in n f.asu f.lba f.size f.opcode f.stamp)
  fields_access n =
      let F : List (List ℕ) → Result Access LineFault =
      λ fs. cond (eqb (length fs) 5)
      (map_err line_fault.Field (access_in n (get_or fs 0 []) (get_or fs 1 []) (get_or fs 2 []) (get_or fs 3 []) (get_or fs 4 [])))
      (Err (line_fault.FieldCount n)) in
      ap F fields_parts
