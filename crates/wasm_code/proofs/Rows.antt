-- What stands for an opcode, and the opcode of what it stands for: one line per row.
use Rattle.std.proofs.Common.{◌≡◌, ℕ, ◌-◌, ◌≤◌, ltb, List, Option, Some, None, refl, sym, ap, subst, arith}
use Rattle.std.proofs.lemmas.Bool.{ltb-true, ltb-false}
use Rattle.std.specs.Option.{option_map}
use Rattle.wasm_types.specs.declared.instructions.Compare.{Compare}
use Rattle.wasm_types.specs.declared.instructions.Compare.TheVariants as compares
use Rattle.wasm_types.specs.declared.instructions.Unary.{Unary}
use Rattle.wasm_types.specs.declared.instructions.Unary.TheVariants as unaries
use Rattle.wasm_types.specs.declared.instructions.Binary.{Binary}
use Rattle.wasm_types.specs.declared.instructions.Binary.TheVariants as binaries
use Rattle.wasm_types.specs.declared.instructions.LoadKind.{LoadKind}
use Rattle.wasm_types.specs.declared.instructions.LoadKind.TheVariants as loads
use Rattle.wasm_types.specs.declared.instructions.StoreKind.{StoreKind}
use Rattle.wasm_types.specs.declared.instructions.StoreKind.TheVariants as stores
use Rattle.wasm_types.specs.declared.instructions.Convert.{Convert}
use Rattle.wasm_types.specs.declared.instructions.Convert.TheVariants as converts
use Rattle.wasm_types.specs.declared.instructions.Test.TheVariants as tests
use Rattle.wasm_types.specs.declared.instructions.Instr.{Instr}
use Rattle.wasm_types.specs.declared.instructions.Instr.TheVariants.{I32Test, I32Compare, I32Unary, I32Binary, I64Test, I64Compare, I64Unary, I64Binary}
use Rattle.wasm_types.specs.declared.instructions.Instr.TheVariants as instrs
use Rattle.wasm_code.specs.Opcodes.{compare_number, unary_number, binary_number, load_number, store_number, convert_number, opcode_of}
use Rattle.wasm_code.specs.Grammar.{AreOperands}
use Rattle.wasm_code.specs.Decoding.{compare_at, unary_at, binary_at, load_at, store_at, convert_at, numeric_at}
use Rattle.wasm_code.proofs.Steps.{choice, tested}

some_is : {A : Type 0} (x y : A) → Some x ≡ Some y → x ≡ y
some_is x y e = cc

none_is : {A P : Type 0} (x : A) → (let none : Option A = None in none) ≡ Some x → P
none_is x e = absurd cc

pub compare_there : (k : ℕ) (x : Compare) → compare_at k ≡ Some x → compare_number x ≡ k
compare_there k x =
    choice k 0 (Some compares.Eq) _ (Some x) (λ j. compare_number x ≡ j) (λ e. ap compare_number (sym (some_is compares.Eq x e))) (
    choice k 1 (Some compares.Ne) _ (Some x) (λ j. compare_number x ≡ j) (λ e. ap compare_number (sym (some_is compares.Ne x e))) (
    choice k 2 (Some compares.LtS) _ (Some x) (λ j. compare_number x ≡ j) (λ e. ap compare_number (sym (some_is compares.LtS x e))) (
    choice k 3 (Some compares.LtU) _ (Some x) (λ j. compare_number x ≡ j) (λ e. ap compare_number (sym (some_is compares.LtU x e))) (
    choice k 4 (Some compares.GtS) _ (Some x) (λ j. compare_number x ≡ j) (λ e. ap compare_number (sym (some_is compares.GtS x e))) (
    choice k 5 (Some compares.GtU) _ (Some x) (λ j. compare_number x ≡ j) (λ e. ap compare_number (sym (some_is compares.GtU x e))) (
    choice k 6 (Some compares.LeS) _ (Some x) (λ j. compare_number x ≡ j) (λ e. ap compare_number (sym (some_is compares.LeS x e))) (
    choice k 7 (Some compares.LeU) _ (Some x) (λ j. compare_number x ≡ j) (λ e. ap compare_number (sym (some_is compares.LeU x e))) (
    choice k 8 (Some compares.GeS) _ (Some x) (λ j. compare_number x ≡ j) (λ e. ap compare_number (sym (some_is compares.GeS x e))) (
    choice k 9 (Some compares.GeU) _ (Some x) (λ j. compare_number x ≡ j) (λ e. ap compare_number (sym (some_is compares.GeU x e))) (
    none_is x))))))))))

pub compare_back : (x : Compare) → compare_at (compare_number x) ≡ Some x
compare_back compares.Eq = refl
compare_back compares.Ne = refl
compare_back compares.LtS = refl
compare_back compares.LtU = refl
compare_back compares.GtS = refl
compare_back compares.GtU = refl
compare_back compares.LeS = refl
compare_back compares.LeU = refl
compare_back compares.GeS = refl
compare_back compares.GeU = refl

pub unary_there : (k : ℕ) (x : Unary) → unary_at k ≡ Some x → unary_number x ≡ k
unary_there k x =
    choice k 0 (Some unaries.Clz) _ (Some x) (λ j. unary_number x ≡ j) (λ e. ap unary_number (sym (some_is unaries.Clz x e))) (
    choice k 1 (Some unaries.Ctz) _ (Some x) (λ j. unary_number x ≡ j) (λ e. ap unary_number (sym (some_is unaries.Ctz x e))) (
    choice k 2 (Some unaries.Popcnt) _ (Some x) (λ j. unary_number x ≡ j) (λ e. ap unary_number (sym (some_is unaries.Popcnt x e))) (
    none_is x)))

pub unary_back : (x : Unary) → unary_at (unary_number x) ≡ Some x
unary_back unaries.Clz = refl
unary_back unaries.Ctz = refl
unary_back unaries.Popcnt = refl

pub binary_there : (k : ℕ) (x : Binary) → binary_at k ≡ Some x → binary_number x ≡ k
binary_there k x =
    choice k 0 (Some binaries.Add) _ (Some x) (λ j. binary_number x ≡ j) (λ e. ap binary_number (sym (some_is binaries.Add x e))) (
    choice k 1 (Some binaries.Sub) _ (Some x) (λ j. binary_number x ≡ j) (λ e. ap binary_number (sym (some_is binaries.Sub x e))) (
    choice k 2 (Some binaries.Mul) _ (Some x) (λ j. binary_number x ≡ j) (λ e. ap binary_number (sym (some_is binaries.Mul x e))) (
    choice k 3 (Some binaries.DivS) _ (Some x) (λ j. binary_number x ≡ j) (λ e. ap binary_number (sym (some_is binaries.DivS x e))) (
    choice k 4 (Some binaries.DivU) _ (Some x) (λ j. binary_number x ≡ j) (λ e. ap binary_number (sym (some_is binaries.DivU x e))) (
    choice k 5 (Some binaries.RemS) _ (Some x) (λ j. binary_number x ≡ j) (λ e. ap binary_number (sym (some_is binaries.RemS x e))) (
    choice k 6 (Some binaries.RemU) _ (Some x) (λ j. binary_number x ≡ j) (λ e. ap binary_number (sym (some_is binaries.RemU x e))) (
    choice k 7 (Some binaries.And) _ (Some x) (λ j. binary_number x ≡ j) (λ e. ap binary_number (sym (some_is binaries.And x e))) (
    choice k 8 (Some binaries.Or) _ (Some x) (λ j. binary_number x ≡ j) (λ e. ap binary_number (sym (some_is binaries.Or x e))) (
    choice k 9 (Some binaries.Xor) _ (Some x) (λ j. binary_number x ≡ j) (λ e. ap binary_number (sym (some_is binaries.Xor x e))) (
    choice k 10 (Some binaries.Shl) _ (Some x) (λ j. binary_number x ≡ j) (λ e. ap binary_number (sym (some_is binaries.Shl x e))) (
    choice k 11 (Some binaries.ShrS) _ (Some x) (λ j. binary_number x ≡ j) (λ e. ap binary_number (sym (some_is binaries.ShrS x e))) (
    choice k 12 (Some binaries.ShrU) _ (Some x) (λ j. binary_number x ≡ j) (λ e. ap binary_number (sym (some_is binaries.ShrU x e))) (
    choice k 13 (Some binaries.Rotl) _ (Some x) (λ j. binary_number x ≡ j) (λ e. ap binary_number (sym (some_is binaries.Rotl x e))) (
    choice k 14 (Some binaries.Rotr) _ (Some x) (λ j. binary_number x ≡ j) (λ e. ap binary_number (sym (some_is binaries.Rotr x e))) (
    none_is x)))))))))))))))

pub binary_back : (x : Binary) → binary_at (binary_number x) ≡ Some x
binary_back binaries.Add = refl
binary_back binaries.Sub = refl
binary_back binaries.Mul = refl
binary_back binaries.DivS = refl
binary_back binaries.DivU = refl
binary_back binaries.RemS = refl
binary_back binaries.RemU = refl
binary_back binaries.And = refl
binary_back binaries.Or = refl
binary_back binaries.Xor = refl
binary_back binaries.Shl = refl
binary_back binaries.ShrS = refl
binary_back binaries.ShrU = refl
binary_back binaries.Rotl = refl
binary_back binaries.Rotr = refl

pub load_there : (k : ℕ) (x : LoadKind) → load_at k ≡ Some x → load_number x ≡ k
load_there k x =
    choice k 40 (Some loads.I32) _ (Some x) (λ j. load_number x ≡ j) (λ e. ap load_number (sym (some_is loads.I32 x e))) (
    choice k 41 (Some loads.I64) _ (Some x) (λ j. load_number x ≡ j) (λ e. ap load_number (sym (some_is loads.I64 x e))) (
    choice k 44 (Some loads.I32From8S) _ (Some x) (λ j. load_number x ≡ j) (λ e. ap load_number (sym (some_is loads.I32From8S x e))) (
    choice k 45 (Some loads.I32From8U) _ (Some x) (λ j. load_number x ≡ j) (λ e. ap load_number (sym (some_is loads.I32From8U x e))) (
    choice k 46 (Some loads.I32From16S) _ (Some x) (λ j. load_number x ≡ j) (λ e. ap load_number (sym (some_is loads.I32From16S x e))) (
    choice k 47 (Some loads.I32From16U) _ (Some x) (λ j. load_number x ≡ j) (λ e. ap load_number (sym (some_is loads.I32From16U x e))) (
    choice k 48 (Some loads.I64From8S) _ (Some x) (λ j. load_number x ≡ j) (λ e. ap load_number (sym (some_is loads.I64From8S x e))) (
    choice k 49 (Some loads.I64From8U) _ (Some x) (λ j. load_number x ≡ j) (λ e. ap load_number (sym (some_is loads.I64From8U x e))) (
    choice k 50 (Some loads.I64From16S) _ (Some x) (λ j. load_number x ≡ j) (λ e. ap load_number (sym (some_is loads.I64From16S x e))) (
    choice k 51 (Some loads.I64From16U) _ (Some x) (λ j. load_number x ≡ j) (λ e. ap load_number (sym (some_is loads.I64From16U x e))) (
    choice k 52 (Some loads.I64From32S) _ (Some x) (λ j. load_number x ≡ j) (λ e. ap load_number (sym (some_is loads.I64From32S x e))) (
    choice k 53 (Some loads.I64From32U) _ (Some x) (λ j. load_number x ≡ j) (λ e. ap load_number (sym (some_is loads.I64From32U x e))) (
    none_is x))))))))))))

pub load_back : (x : LoadKind) → load_at (load_number x) ≡ Some x
load_back loads.I32 = refl
load_back loads.I64 = refl
load_back loads.I32From8S = refl
load_back loads.I32From8U = refl
load_back loads.I32From16S = refl
load_back loads.I32From16U = refl
load_back loads.I64From8S = refl
load_back loads.I64From8U = refl
load_back loads.I64From16S = refl
load_back loads.I64From16U = refl
load_back loads.I64From32S = refl
load_back loads.I64From32U = refl

pub store_there : (k : ℕ) (x : StoreKind) → store_at k ≡ Some x → store_number x ≡ k
store_there k x =
    choice k 54 (Some stores.I32) _ (Some x) (λ j. store_number x ≡ j) (λ e. ap store_number (sym (some_is stores.I32 x e))) (
    choice k 55 (Some stores.I64) _ (Some x) (λ j. store_number x ≡ j) (λ e. ap store_number (sym (some_is stores.I64 x e))) (
    choice k 58 (Some stores.I32To8) _ (Some x) (λ j. store_number x ≡ j) (λ e. ap store_number (sym (some_is stores.I32To8 x e))) (
    choice k 59 (Some stores.I32To16) _ (Some x) (λ j. store_number x ≡ j) (λ e. ap store_number (sym (some_is stores.I32To16 x e))) (
    choice k 60 (Some stores.I64To8) _ (Some x) (λ j. store_number x ≡ j) (λ e. ap store_number (sym (some_is stores.I64To8 x e))) (
    choice k 61 (Some stores.I64To16) _ (Some x) (λ j. store_number x ≡ j) (λ e. ap store_number (sym (some_is stores.I64To16 x e))) (
    choice k 62 (Some stores.I64To32) _ (Some x) (λ j. store_number x ≡ j) (λ e. ap store_number (sym (some_is stores.I64To32 x e))) (
    none_is x)))))))

pub store_back : (x : StoreKind) → store_at (store_number x) ≡ Some x
store_back stores.I32 = refl
store_back stores.I64 = refl
store_back stores.I32To8 = refl
store_back stores.I32To16 = refl
store_back stores.I64To8 = refl
store_back stores.I64To16 = refl
store_back stores.I64To32 = refl

pub convert_there : (k : ℕ) (x : Convert) → convert_at k ≡ Some x → convert_number x ≡ k
convert_there k x =
    choice k 167 (Some converts.WrapI64) _ (Some x) (λ j. convert_number x ≡ j) (λ e. ap convert_number (sym (some_is converts.WrapI64 x e))) (
    choice k 172 (Some converts.ExtendI32S) _ (Some x) (λ j. convert_number x ≡ j) (λ e. ap convert_number (sym (some_is converts.ExtendI32S x e))) (
    choice k 173 (Some converts.ExtendI32U) _ (Some x) (λ j. convert_number x ≡ j) (λ e. ap convert_number (sym (some_is converts.ExtendI32U x e))) (
    none_is x)))

pub convert_back : (x : Convert) → convert_at (convert_number x) ≡ Some x
convert_back converts.WrapI64 = refl
convert_back converts.ExtendI32S = refl
convert_back converts.ExtendI32U = refl

-- an instruction without operands
abbrev pub IsNumeric : ℕ → Instr → Type 0
IsNumeric code i = (opcode_of i ≡ code) × ((bytes : List ℕ) → AreOperands bytes i bytes)

mapped : {A : Type 0} (o : Option A) (make : A → Instr) (i : Instr) (P : Instr → Type 0) → ((x : A) → o ≡ Some x → P (make x)) → option_map make o ≡ Some i → P i
mapped None make i P h e = absurd cc
mapped (Some x) make i P h e = subst P (some_is (make x) i e) (h x refl)

pub numeric_sound : (code : ℕ) (i : Instr) → numeric_at code ≡ Some i → IsNumeric code i
unfolding numeric_at
numeric_sound code i =
    tested (ltb code 69) _ _ (Some i) (IsNumeric code i) (λ t0 e. none_is i e) (λ f0.
    tested (ltb code 70) _ _ (Some i) (IsNumeric code i) (λ t1 e. let low : 69 ≤ code = ltb-false code 69 f0 in let high = ltb-true code 70 t1 in subst (λ j. IsNumeric code j) (some_is (I32Test tests.Eqz) i e) (omega arith, λ bytes. refl)) (λ f1.
    tested (ltb code 80) _ _ (Some i) (IsNumeric code i) (λ t2 e. let low : 70 ≤ code = ltb-false code 70 f1 in mapped (compare_at (code - 70)) I32Compare i (λ j. IsNumeric code j) (λ x e'. (let k = compare_there (code - 70) x e' in omega (arith, k), λ bytes. refl)) e) (λ f2.
    tested (ltb code 81) _ _ (Some i) (IsNumeric code i) (λ t3 e. let low : 80 ≤ code = ltb-false code 80 f2 in let high = ltb-true code 81 t3 in subst (λ j. IsNumeric code j) (some_is (I64Test tests.Eqz) i e) (omega arith, λ bytes. refl)) (λ f3.
    tested (ltb code 91) _ _ (Some i) (IsNumeric code i) (λ t4 e. let low : 81 ≤ code = ltb-false code 81 f3 in mapped (compare_at (code - 81)) I64Compare i (λ j. IsNumeric code j) (λ x e'. (let k = compare_there (code - 81) x e' in omega (arith, k), λ bytes. refl)) e) (λ f4.
    tested (ltb code 103) _ _ (Some i) (IsNumeric code i) (λ t5 e. none_is i e) (λ f5.
    tested (ltb code 106) _ _ (Some i) (IsNumeric code i) (λ t6 e. let low : 103 ≤ code = ltb-false code 103 f5 in mapped (unary_at (code - 103)) I32Unary i (λ j. IsNumeric code j) (λ x e'. (let k = unary_there (code - 103) x e' in omega (arith, k), λ bytes. refl)) e) (λ f6.
    tested (ltb code 121) _ _ (Some i) (IsNumeric code i) (λ t7 e. let low : 106 ≤ code = ltb-false code 106 f6 in mapped (binary_at (code - 106)) I32Binary i (λ j. IsNumeric code j) (λ x e'. (let k = binary_there (code - 106) x e' in omega (arith, k), λ bytes. refl)) e) (λ f7.
    tested (ltb code 124) _ _ (Some i) (IsNumeric code i) (λ t8 e. let low : 121 ≤ code = ltb-false code 121 f7 in mapped (unary_at (code - 121)) I64Unary i (λ j. IsNumeric code j) (λ x e'. (let k = unary_there (code - 121) x e' in omega (arith, k), λ bytes. refl)) e) (λ f8.
    tested (ltb code 139) _ _ (Some i) (IsNumeric code i) (λ t9 e. let low : 124 ≤ code = ltb-false code 124 f8 in mapped (binary_at (code - 124)) I64Binary i (λ j. IsNumeric code j) (λ x e'. (let k = binary_there (code - 124) x e' in omega (arith, k), λ bytes. refl)) e) (λ f9.
    λ e. mapped (convert_at code) instrs.Convert i (λ j. IsNumeric code j) (λ x e'. (convert_there code x e', λ bytes. refl)) e))))))))))
