-- The text of each row of the instruction table is a line that stands for the row's word.
use Rattle.std.proofs.Common.{◌≡◌, ℕ, ◌%◌, ◌^◌, ◌<◌, Bool, true, false, cond, eqb, eqb-true}
use Rattle.std.proofs.Common.{ℤ, List, [], ◌∷◌, Option, Some, None, find, option_map, refl, sym, ap, ◌∙◌, arith, subst}
use Rattle.std.specs.Prelude.{codes, IfSome}
use Rattle.rvm_word.specs.Word.{signed_value}
use Rattle.rvm_isa.specs.Fields.{rd, rs1, rs2, csr, aq, rl, u_bits, i_bits, s_bits, b_bits, j_bits}
use Rattle.rvm_isa.specs.Table.{Shape, Row, table, has_row, row_of, decoded, ins_of}
use Rattle.rvm_isa.specs.Table as shape
use Rattle.rvm_isa.specs.Words.{word_of}
use Rattle.rvm_isa.specs.declared.ins.Ins.{Ins}
use Rattle.rvm_isa.specs.declared.ins.Ins.TheVariants as ins
use Rattle.rvm_asm.specs.declared.operations.Operation.{Operation}
use Rattle.rvm_asm.specs.declared.operations.Operation.TheVariants as operation
use Rattle.rvm_asm.specs.declared.operations.Upper.{Upper}
use Rattle.rvm_asm.specs.declared.operations.Upper.TheVariants as upper
use Rattle.rvm_asm.specs.declared.operations.Branch.{Branch}
use Rattle.rvm_asm.specs.declared.operations.Branch.TheVariants as branch
use Rattle.rvm_asm.specs.declared.operations.Load.{Load}
use Rattle.rvm_asm.specs.declared.operations.Load.TheVariants as load
use Rattle.rvm_asm.specs.declared.operations.Store.{Store}
use Rattle.rvm_asm.specs.declared.operations.Store.TheVariants as store
use Rattle.rvm_asm.specs.declared.operations.Immediate.{Immediate}
use Rattle.rvm_asm.specs.declared.operations.Immediate.TheVariants as immediate
use Rattle.rvm_asm.specs.declared.operations.Shift.{Shift}
use Rattle.rvm_asm.specs.declared.operations.Shift.TheVariants as shift
use Rattle.rvm_asm.specs.declared.operations.Register.{Register}
use Rattle.rvm_asm.specs.declared.operations.Register.TheVariants as register
use Rattle.rvm_asm.specs.declared.operations.Whole.{Whole}
use Rattle.rvm_asm.specs.declared.operations.Whole.TheVariants as whole
use Rattle.rvm_asm.specs.declared.operations.Csr.{Csr}
use Rattle.rvm_asm.specs.declared.operations.Csr.TheVariants as csr
use Rattle.rvm_asm.specs.declared.operations.CsrImmediate.{CsrImmediate}
use Rattle.rvm_asm.specs.declared.operations.CsrImmediate.TheVariants as csr_immediate
use Rattle.rvm_asm.specs.declared.operations.Atomic.{Atomic}
use Rattle.rvm_asm.specs.declared.operations.Atomic.TheVariants as atomic
use Rattle.rvm_asm.specs.declared.statements.Code.TheVariants as code
use Rattle.rvm_asm.specs.declared.statements.Keyword.{Keyword}
use Rattle.rvm_asm.specs.declared.statements.Keyword.TheVariants as keyword
use Rattle.rvm_asm.specs.Operations.{operations, atomics, operation_of, ordering, upper_ins, branch_ins, load_ins, store_ins, immediate_ins, shift_ins, register_ins, whole_ins, csr_ins, csr_immediate_ins, atomic_ins}
use Rattle.rvm_asm.specs.Statements.{keyword_of, directives, pseudo_instructions}
use Rattle.rvm_asm.specs.Values.{Names}
use Rattle.rvm_dis.specs.Assembles.{Assembles}
use Rattle.rvm_dis.specs.Disassembly.{text_of, text_of_decoded, text_at}
use Rattle.rvm_dis.specs.Pieces.{ordered}
use Rattle.rvm_dis.specs.Texts.{upper_text, jump_text, branch_text, access_text, immediate_text, shift_text, registers_text, csr_text, csr_immediate_text, load_reserved_text, atomic_text, word_text, fence_text}
use Rattle.rvm_dis.proofs.Lines.{IsMnemonic, data_line, whole_line, registers_line, upper_line, jump_line, branch_line, immediate_line, shift_line, load_line, store_line, csr_line, csr_immediate_line, load_reserved_line, atomic_line}
use Rattle.rvm_dis.proofs.Reading.{is_one_word}

-- the text of an instruction of a shape, with the fields of a word, stands for the word
abbrev Good : Shape → Type 0
Good s =
    (names : Names) (a : ℕ) → a < 2 ^ 32 → a % 4 ≡ 0 → (w : ℕ) → w < 2 ^ 32 →
    word_of (ins_of s w) ≡ w → Assembles names a w (text_of a (ins_of s w))

-- whether bytes are one word, and what kind of line they name
abbrev reading : List ℕ → Bool × Option Keyword
reading m = (is_one_word m, keyword_of m)

-- they are a word that names this operation
abbrev Means : List ℕ → Operation → Type 0
Means m op = reading m ≡ (true, Some (keyword.Code (code.Instruction op)))

named : (m : List ℕ) (op : Operation) → Means m op → IsMnemonic m op
named m op means = record { one_word = ap (λ p. p.0) means; known = ap (λ p. p.1) means }

-- a row of each shape

upper_row : (m : List ℕ) (op : Upper) → Means m (operation.Upper op) →
    ((a d i : ℕ) → text_of a (upper_ins op d i) ≡ upper_text m d i) →
    Good (shape.U (upper_ins op))
upper_row m op means text names a below aligned w fits is =
    subst (Assembles names a w) (sym (text a (rd w) (u_bits w)))
    (upper_line names a below aligned w m op (rd w) (u_bits w)
    (named m (operation.Upper op) means) (omega arith) (omega arith) is)

jump_row : (m : List ℕ) → Means m operation.Jump →
    ((a d : ℕ) (z : ℤ) → text_of a (ins.Jal d z) ≡ jump_text m a d z) →
    Good (shape.J ins.Jal)
jump_row m means text names a below aligned w fits is =
    subst (Assembles names a w) (sym (text a (rd w) (signed_value 21 (j_bits w))))
    (jump_line names a below aligned w m (rd w) (j_bits w) (named m operation.Jump means)
    (omega arith) (omega arith) (omega arith) is)

branch_row : (m : List ℕ) (op : Branch) → Means m (operation.Branch op) →
    ((a s t : ℕ) (z : ℤ) → text_of a (branch_ins op s t z) ≡ branch_text m a s t z) →
    Good (shape.B (branch_ins op))
branch_row m op means text names a below aligned w fits is =
    subst (Assembles names a w) (sym (text a (rs1 w) (rs2 w) (signed_value 13 (b_bits w))))
    (branch_line names a below aligned w m op (rs1 w) (rs2 w) (b_bits w)
    (named m (operation.Branch op) means) (omega arith) (omega arith) (omega arith) (omega arith)
    is)

load_row : (m : List ℕ) (op : Load) → Means m (operation.Load op) →
    ((a d s : ℕ) (z : ℤ) → text_of a (load_ins op d s z) ≡ access_text m d s z) →
    Good (shape.I (load_ins op))
load_row m op means text names a below aligned w fits is =
    subst (Assembles names a w) (sym (text a (rd w) (rs1 w) (signed_value 12 (i_bits w))))
    (load_line names a below aligned w m op (rd w) (rs1 w) (i_bits w)
    (named m (operation.Load op) means) (omega arith) (omega arith) (omega arith) is)

store_row : (m : List ℕ) (op : Store) → Means m (operation.Store op) →
    ((a s t : ℕ) (z : ℤ) → text_of a (store_ins op s t z) ≡ access_text m t s z) →
    Good (shape.S (store_ins op))
store_row m op means text names a below aligned w fits is =
    subst (Assembles names a w) (sym (text a (rs1 w) (rs2 w) (signed_value 12 (s_bits w))))
    (store_line names a below aligned w m op (rs2 w) (rs1 w) (s_bits w)
    (named m (operation.Store op) means) (omega arith) (omega arith) (omega arith) is)

immediate_row : (m : List ℕ) (op : Immediate) → Means m (operation.Immediate op) →
    ((a d s : ℕ) (z : ℤ) → text_of a (immediate_ins op d s z) ≡ immediate_text m d s z) →
    Good (shape.I (immediate_ins op))
immediate_row m op means text names a below aligned w fits is =
    subst (Assembles names a w) (sym (text a (rd w) (rs1 w) (signed_value 12 (i_bits w))))
    (immediate_line names a below aligned w m op (rd w) (rs1 w) (i_bits w)
    (named m (operation.Immediate op) means) (omega arith) (omega arith) (omega arith) is)

shift_row : (m : List ℕ) (op : Shift) → Means m (operation.Shift op) →
    ((a d s i : ℕ) → text_of a (shift_ins op d s i) ≡ shift_text m d s i) →
    Good (shape.Shift (shift_ins op))
shift_row m op means text names a below aligned w fits is =
    subst (Assembles names a w) (sym (text a (rd w) (rs1 w) (rs2 w)))
    (shift_line names a below aligned w m op (rd w) (rs1 w) (rs2 w)
    (named m (operation.Shift op) means) (omega arith) (omega arith) (omega arith) is)

registers_row : (m : List ℕ) (op : Register) → Means m (operation.Register op) →
    ((a d s t : ℕ) → text_of a (register_ins op d s t) ≡ registers_text m d s t) →
    Good (shape.R (register_ins op))
registers_row m op means text names a below aligned w fits is =
    subst (Assembles names a w) (sym (text a (rd w) (rs1 w) (rs2 w)))
    (registers_line names a below aligned w m op (rd w) (rs1 w) (rs2 w)
    (named m (operation.Register op) means) (omega arith) (omega arith) (omega arith) is)

csr_row : (m : List ℕ) (op : Csr) → Means m (operation.Csr op) →
    ((a d s c : ℕ) → text_of a (csr_ins op d s c) ≡ csr_text m d s c) →
    Good (shape.Csr (csr_ins op))
csr_row m op means text names a below aligned w fits is =
    subst (Assembles names a w) (sym (text a (rd w) (rs1 w) (csr w)))
    (csr_line names a below aligned w m op (rd w) (rs1 w) (csr w)
    (named m (operation.Csr op) means) (omega arith) (omega arith) (omega arith) is)

csr_immediate_row : (m : List ℕ) (op : CsrImmediate) → Means m (operation.CsrImmediate op) →
    ((a d i c : ℕ) → text_of a (csr_immediate_ins op d i c) ≡ csr_immediate_text m d i c) →
    Good (shape.CsrImm (csr_immediate_ins op))
csr_immediate_row m op means text names a below aligned w fits is =
    subst (Assembles names a w) (sym (text a (rd w) (rs1 w) (csr w)))
    (csr_immediate_line names a below aligned w m op (rd w) (rs1 w) (csr w)
    (named m (operation.CsrImmediate op) means) (omega arith) (omega arith) (omega arith) is)

whole_row : (m : List ℕ) (op : Whole) → Means m (operation.Whole op) →
    ((a : ℕ) → text_of a (whole_ins op) ≡ m) →
    Good (shape.Whole (whole_ins op))
whole_row m op means text names a below aligned w fits is =
    subst (Assembles names a w) (sym (text a))
    (whole_line names a below aligned w m op (named m (operation.Whole op) means) is)

-- a fence has its mnemonic at one word alone
fence_row : (m : List ℕ) (op : Whole) (only : ℕ) (make : ℕ → ℕ → ℤ → Ins) →
    Means m (operation.Whole op) → word_of (whole_ins op) ≡ only →
    ((a d s : ℕ) (z : ℤ) → text_of a (make d s z) ≡ fence_text m only (word_of (make d s z))) →
    Good (shape.I make)
fence_row m op only make means word_is text names a below aligned w fits is =
    subst (Assembles names a w)
    (sym (text a (rd w) (rs1 w) (signed_value 12 (i_bits w)) ∙ ap (fence_text m only) is))
    (by_test (eqb w only) refl)
  where
    by_test : (b : Bool) → eqb w only ≡ b → Assembles names a w (cond b m (word_text w))
    by_test true e =
        let same = word_is ∙ sym (eqb-true w only e) in
        whole_line names a below aligned w m op (named m (operation.Whole op) means) same
    by_test false e = data_line names a below aligned w fits

-- a mnemonic with each ordering after it
each_order : (m : List ℕ) (op : Bool → Bool → Operation) →
    Means (ordered m false false) (op false false) → Means (ordered m true false) (op true false) →
    Means (ordered m false true) (op false true) → Means (ordered m true true) (op true true) →
    (aq rl : Bool) → IsMnemonic (ordered m aq rl) (op aq rl)
each_order m op p q r s false false = named (ordered m false false) (op false false) p
each_order m op p q r s true false = named (ordered m true false) (op true false) q
each_order m op p q r s false true = named (ordered m false true) (op false true) r
each_order m op p q r s true true = named (ordered m true true) (op true true) s

-- load-reserved and the other atomic instructions, as their mnemonics are read
abbrev reserving : Bool → Bool → Operation
reserving aq rl = operation.LoadReserved (ordering aq rl)

abbrev atomic_as : Atomic → Bool → Bool → Operation
atomic_as op aq rl = operation.Atomic op (ordering aq rl)

load_reserved_row : (m : List ℕ) →
    Means (ordered m false false) (reserving false false) →
    Means (ordered m true false) (reserving true false) →
    Means (ordered m false true) (reserving false true) →
    Means (ordered m true true) (reserving true true) →
    ((a d s : ℕ) (aq rl : Bool) → text_of a (ins.LrW d s aq rl) ≡ load_reserved_text m d s aq rl) →
    Good (shape.Lr ins.LrW)
load_reserved_row m none acquires releases both text names a below aligned w fits is =
    let mnemonic = each_order m reserving none acquires releases both (aq w) (rl w) in
    subst (Assembles names a w) (sym (text a (rd w) (rs1 w) (aq w) (rl w)))
    (load_reserved_line names a below aligned w m (rd w) (rs1 w) (aq w) (rl w) mnemonic
    (omega arith) (omega arith) is)

atomic_row : (m : List ℕ) (op : Atomic) →
    Means (ordered m false false) (atomic_as op false false) →
    Means (ordered m true false) (atomic_as op true false) →
    Means (ordered m false true) (atomic_as op false true) →
    Means (ordered m true true) (atomic_as op true true) →
    ((a d s t : ℕ) (aq rl : Bool) →
    text_of a (atomic_ins op (ordering aq rl) d s t) ≡ atomic_text m d s t aq rl) →
    Good (shape.Amo (λ d s t aq rl. atomic_ins op (ordering aq rl) d s t))
atomic_row m op none acquires releases both text names a below aligned w fits is =
    let mnemonic = each_order m (atomic_as op) none acquires releases both (aq w) (rl w) in
    subst (Assembles names a w) (sym (text a (rd w) (rs1 w) (rs2 w) (aq w) (rl w)))
    (atomic_line names a below aligned w m op (rd w) (rs1 w) (rs2 w) (aq w) (rl w) mnemonic
    (omega arith) (omega arith) (omega arith) is)

-- all rows

abbrev AllGood : List Row → Type 0
AllGood [] = Unit {0}
AllGood (r ∷ rows) = Good r.shape × AllGood rows

infixr 20 ◌▸◌
◌▸◌ : {A B : Type 0} → A → B → A × B
x ▸ y = (x, y)

good_rows : AllGood table
unfolding table text_of word_of keyword_of directives pseudo_instructions operation_of operations atomics
good_rows =
    upper_row (codes "lui") upper.Lui refl (λ a d i. refl) ▸
    upper_row (codes "auipc") upper.Auipc refl (λ a d i. refl) ▸
    jump_row (codes "jal") refl (λ a d z. refl) ▸
    load_row (codes "jalr") load.Jalr refl (λ a d s z. refl) ▸
    branch_row (codes "beq") branch.Beq refl (λ a s t z. refl) ▸
    branch_row (codes "bne") branch.Bne refl (λ a s t z. refl) ▸
    branch_row (codes "blt") branch.Blt refl (λ a s t z. refl) ▸
    branch_row (codes "bge") branch.Bge refl (λ a s t z. refl) ▸
    branch_row (codes "bltu") branch.Bltu refl (λ a s t z. refl) ▸
    branch_row (codes "bgeu") branch.Bgeu refl (λ a s t z. refl) ▸
    load_row (codes "lb") load.Lb refl (λ a d s z. refl) ▸
    load_row (codes "lh") load.Lh refl (λ a d s z. refl) ▸
    load_row (codes "lw") load.Lw refl (λ a d s z. refl) ▸
    load_row (codes "lbu") load.Lbu refl (λ a d s z. refl) ▸
    load_row (codes "lhu") load.Lhu refl (λ a d s z. refl) ▸
    store_row (codes "sb") store.Sb refl (λ a s t z. refl) ▸
    store_row (codes "sh") store.Sh refl (λ a s t z. refl) ▸
    store_row (codes "sw") store.Sw refl (λ a s t z. refl) ▸
    immediate_row (codes "addi") immediate.Addi refl (λ a d s z. refl) ▸
    immediate_row (codes "slti") immediate.Slti refl (λ a d s z. refl) ▸
    immediate_row (codes "sltiu") immediate.Sltiu refl (λ a d s z. refl) ▸
    immediate_row (codes "xori") immediate.Xori refl (λ a d s z. refl) ▸
    immediate_row (codes "ori") immediate.Ori refl (λ a d s z. refl) ▸
    immediate_row (codes "andi") immediate.Andi refl (λ a d s z. refl) ▸
    shift_row (codes "slli") shift.Slli refl (λ a d s i. refl) ▸
    shift_row (codes "srli") shift.Srli refl (λ a d s i. refl) ▸
    shift_row (codes "srai") shift.Srai refl (λ a d s i. refl) ▸
    registers_row (codes "add") register.Add refl (λ a d s t. refl) ▸
    registers_row (codes "sub") register.Sub refl (λ a d s t. refl) ▸
    registers_row (codes "sll") register.Sll refl (λ a d s t. refl) ▸
    registers_row (codes "slt") register.Slt refl (λ a d s t. refl) ▸
    registers_row (codes "sltu") register.Sltu refl (λ a d s t. refl) ▸
    registers_row (codes "xor") register.Xor refl (λ a d s t. refl) ▸
    registers_row (codes "srl") register.Srl refl (λ a d s t. refl) ▸
    registers_row (codes "sra") register.Sra refl (λ a d s t. refl) ▸
    registers_row (codes "or") register.Or refl (λ a d s t. refl) ▸
    registers_row (codes "and") register.And refl (λ a d s t. refl) ▸
    registers_row (codes "mul") register.Mul refl (λ a d s t. refl) ▸
    registers_row (codes "mulh") register.Mulh refl (λ a d s t. refl) ▸
    registers_row (codes "mulhsu") register.Mulhsu refl (λ a d s t. refl) ▸
    registers_row (codes "mulhu") register.Mulhu refl (λ a d s t. refl) ▸
    registers_row (codes "div") register.Div refl (λ a d s t. refl) ▸
    registers_row (codes "divu") register.Divu refl (λ a d s t. refl) ▸
    registers_row (codes "rem") register.Rem refl (λ a d s t. refl) ▸
    registers_row (codes "remu") register.Remu refl (λ a d s t. refl) ▸
    fence_row (codes "fence") whole.Fence 0x0FF0000F ins.Fence refl refl (λ a d s z. refl) ▸
    fence_row (codes "fence.i") whole.FenceI 0x0000100F ins.FenceI refl refl (λ a d s z. refl) ▸
    whole_row (codes "ecall") whole.Ecall refl (λ a. refl) ▸
    whole_row (codes "ebreak") whole.Ebreak refl (λ a. refl) ▸
    whole_row (codes "mret") whole.Mret refl (λ a. refl) ▸
    whole_row (codes "wfi") whole.Wfi refl (λ a. refl) ▸
    csr_row (codes "csrrw") csr.Csrrw refl (λ a d s c. refl) ▸
    csr_row (codes "csrrs") csr.Csrrs refl (λ a d s c. refl) ▸
    csr_row (codes "csrrc") csr.Csrrc refl (λ a d s c. refl) ▸
    csr_immediate_row (codes "csrrwi") csr_immediate.Csrrwi refl (λ a d i c. refl) ▸
    csr_immediate_row (codes "csrrsi") csr_immediate.Csrrsi refl (λ a d i c. refl) ▸
    csr_immediate_row (codes "csrrci") csr_immediate.Csrrci refl (λ a d i c. refl) ▸
    load_reserved_row (codes "lr.w") refl refl refl refl (λ a d s aq rl. refl) ▸
    atomic_row (codes "sc.w") atomic.ScW refl refl refl refl (λ a d s t aq rl. refl) ▸
    atomic_row (codes "amoswap.w") atomic.AmoswapW refl refl refl refl (λ a d s t aq rl. refl) ▸
    atomic_row (codes "amoadd.w") atomic.AmoaddW refl refl refl refl (λ a d s t aq rl. refl) ▸
    atomic_row (codes "amoxor.w") atomic.AmoxorW refl refl refl refl (λ a d s t aq rl. refl) ▸
    atomic_row (codes "amoand.w") atomic.AmoandW refl refl refl refl (λ a d s t aq rl. refl) ▸
    atomic_row (codes "amoor.w") atomic.AmoorW refl refl refl refl (λ a d s t aq rl. refl) ▸
    atomic_row (codes "amomin.w") atomic.AmominW refl refl refl refl (λ a d s t aq rl. refl) ▸
    atomic_row (codes "amomax.w") atomic.AmomaxW refl refl refl refl (λ a d s t aq rl. refl) ▸
    atomic_row (codes "amominu.w") atomic.AmominuW refl refl refl refl (λ a d s t aq rl. refl) ▸
    atomic_row (codes "amomaxu.w") atomic.AmomaxuW refl refl refl refl (λ a d s t aq rl. refl) ▸
    tt

-- a word's row is one of them
found : (w : ℕ) (rows : List Row) → AllGood rows →
    IfSome (find (has_row w) rows) (λ r. Good r.shape)
found w [] all = tt
found w (r ∷ rows) all = by_test (has_row w r) (found w rows all.1)
  where
    by_test : (b : Bool) → IfSome (find (has_row w) rows) (λ r. Good r.shape) →
        IfSome (cond b (Some r) (find (has_row w) rows)) (λ r. Good r.shape)
    by_test true rest = all.0
    by_test false rest = rest

-- the text of a word stands for it
pub text_assembles : (names : Names) (a w : ℕ) → a < 2 ^ 32 → a % 4 ≡ 0 → w < 2 ^ 32 →
    IfSome (decoded w) (λ i. word_of i ≡ w) → Assembles names a w (text_at a w)
unfolding decoded row_of
text_assembles names a w below aligned fits again =
    by_row (find (has_row w) table) (found w table good_rows) again
  where
    by_row : (o : Option Row) → IfSome o (λ r. Good r.shape) →
        IfSome (option_map (λ r. ins_of r.shape w) o) (λ i. word_of i ≡ w) →
        Assembles names a w (text_of_decoded a w (option_map (λ r. ins_of r.shape w) o))
    by_row None good is = data_line names a below aligned w fits
    by_row (Some r) good is = good names a below aligned w fits is
