-- Lines of each shape of operands, and the words that they stand for.
use Rattle.std.proofs.Common.{◌≡◌, ℕ, ◌+◌, ◌%◌, ◌^◌, ◌<◌, Bool, true, eqb, nat_le}
use Rattle.std.proofs.Common.{List, [], ◌∷◌, ◌++◌, Some, None, Ok, refl, ap, ◌∙◌, arith, append_assoc}
use Rattle.std.specs.Prelude.{codes}
use Rattle.std.specs.Fmt.{decimal}
use Rattle.std.specs.Int.{to_le_bytes, w32}
use Rattle.std.proofs.lemmas.Bool.Decides.{nat_tests}
use Rattle.rvm_word.specs.Word.{signed_value}
use Rattle.rvm_text.specs.Lexemes.{Lexeme, Word, Mark}
use Rattle.rvm_text.specs.Registers.{name_of}
use Rattle.rvm_isa.specs.declared.ins.Ins.{Ins}
use Rattle.rvm_isa.specs.declared.ins.Ins.TheVariants as ins
use Rattle.rvm_isa.specs.Words.{word_of}
use Rattle.rvm_asm.specs.declared.operations.Operation.{Operation}
use Rattle.rvm_asm.specs.declared.operations.Operation.TheVariants as operation
use Rattle.rvm_asm.specs.declared.operations.Upper.{Upper}
use Rattle.rvm_asm.specs.declared.operations.Branch.{Branch}
use Rattle.rvm_asm.specs.declared.operations.Load.{Load}
use Rattle.rvm_asm.specs.declared.operations.Store.{Store}
use Rattle.rvm_asm.specs.declared.operations.Immediate.{Immediate}
use Rattle.rvm_asm.specs.declared.operations.Shift.{Shift}
use Rattle.rvm_asm.specs.declared.operations.Register.{Register}
use Rattle.rvm_asm.specs.declared.operations.Whole.{Whole}
use Rattle.rvm_asm.specs.declared.operations.Csr.{Csr}
use Rattle.rvm_asm.specs.declared.operations.CsrImmediate.{CsrImmediate}
use Rattle.rvm_asm.specs.declared.operations.Atomic.{Atomic}
use Rattle.rvm_asm.specs.declared.statements.Code.TheVariants as code
use Rattle.rvm_asm.specs.declared.statements.Keyword.TheVariants as keyword
use Rattle.rvm_asm.specs.declared.grammar.Operand.TheVariants as operand
use Rattle.rvm_asm.specs.Contents.{words_at, list_bytes, value_of_width}
use Rattle.rvm_asm.specs.Grammar.{grammar_at, expressions_at, behind, more_operands_at}
use Rattle.rvm_asm.specs.Instructions.{instruction_at}
use Rattle.rvm_asm.specs.Operations.{ordering, upper_ins, branch_ins, load_ins, store_ins, immediate_ins, shift_ins, register_ins, whole_ins, csr_ins, csr_immediate_ins, atomic_ins}
use Rattle.rvm_asm.specs.Reading.{parts}
use Rattle.rvm_asm.specs.Statements.{label_of, keyword_of, directives}
use Rattle.rvm_asm.specs.Values.{Names}
use Rattle.rvm_dis.specs.Pieces.{hex, short_hex, target, ordered}
use Rattle.rvm_dis.specs.Texts.{upper_text, jump_text, branch_text, access_text, immediate_text, shift_text, registers_text, csr_text, csr_immediate_text, load_reserved_text, atomic_text, word_text}
use Rattle.rvm_dis.specs.Assembles.{Assembles}
use Rattle.rvm_dis.proofs.Numbers.{decimal_word, short_hex_word, hex_word}
use Rattle.rvm_dis.proofs.Operands.{register_word, register_first, register_last, base_last, decimal_below, short_hex_below, word_last, csr_first, branch_target, jump_target, signed_lexemes, signed_reads, last_signed_reads, immediate_field, immediate_last, immediate_first, register_follows, register_is_last, base_is_last, csr_follows, decimal_is_last, short_hex_is_last, word_is_last, target_is_last, immediate_is_last, address_is_last}
use Rattle.rvm_dis.proofs.Reading.{Reads, is_one_word, read_all, one_line, word, last_word, blank, comma, bracketed}

-- a word that names an instruction
pub record IsMnemonic (mnemonic : List ℕ) (op : Operation) : Type 0 where
  pub one_word : is_one_word mnemonic ≡ true
  pub known : keyword_of mnemonic ≡ Some (keyword.Code (code.Instruction op))

-- a register, a comma and a blank before it
register_then : {text : List ℕ} {ts : List Lexeme} (r : ℕ) → r < 32 → Reads text ts →
    Reads (name_of r ++ 44 ∷ 32 ∷ text) (Word (name_of r) ∷ Mark 44 ∷ ts)
register_then r inside reads = word (name_of r) (register_word r inside) (comma reads) refl

-- a register alone
just_register : (r : ℕ) → r < 32 → Reads (name_of r) (Word (name_of r) ∷ [])
just_register r inside = last_word (name_of r) (register_word r inside)

-- a register in parentheses
base_register : (r : ℕ) → r < 32 →
    Reads (40 ∷ (name_of r ++ 41 ∷ [])) (Mark 40 ∷ Word (name_of r) ∷ Mark 41 ∷ [])
base_register r inside = bracketed (name_of r) (register_word r inside)

-- the number of a CSR, a comma and a blank before it
csr_then : {text : List ℕ} {ts : List Lexeme} (n : ℕ) → Reads text ts →
    Reads (hex 3 n ++ 44 ∷ 32 ∷ text) (Word (hex 3 n) ∷ Mark 44 ∷ ts)
csr_then n reads = word (hex 3 n) (hex_word 3 n) (comma reads) refl

-- at a place, for a word
module _ (names : Names) (a : ℕ) (below : a < 2 ^ 32) (aligned : a % 4 ≡ 0) (w : ℕ) where
  room : nat_le (a + 4) (2 ^ 32) ≡ true
  room = grind (arith, nat_tests)

  multiple : eqb (a % 4) 0 ≡ true
  multiple = grind (arith, nat_tests)

  -- a mnemonic and its operands, which are those of an instruction
  statement : {text : List ℕ} {ts : List Lexeme} (m : List ℕ) (op : Operation) (i : Ins) →
      IsMnemonic m op → Reads text (Word m ∷ ts) →
      label_of a (Word m ∷ ts) ≡ (None, Word m ∷ ts) →
      grammar_at (keyword.Code (code.Instruction op)) ts ≡ Ok tt →
      instruction_at names a op ts ≡ Ok i → word_of i ≡ w → Assembles names a w text
  unfolding words_at
  statement {text} {ts} m op i named reads unlabelled shaped operands is = record {
    one_line = one_line reads;
    lexemes = Word m ∷ ts;
    read = read_all reads;
    unlabelled = unlabelled;
    undefining = rw (named.known, shaped) refl;
    next = rw (named.known, shaped, room) refl;
    bytes = rw (named.known, shaped, operands, multiple) (ap (λ v. Ok (to_le_bytes w32 v)) is);
  }

  -- the same with a blank between them
  line : {text : List ℕ} {ts : List Lexeme} (m : List ℕ) (op : Operation) (i : Ins) →
      IsMnemonic m op → Reads text ts → label_of a (Word m ∷ ts) ≡ (None, Word m ∷ ts) →
      grammar_at (keyword.Code (code.Instruction op)) ts ≡ Ok tt →
      instruction_at names a op ts ≡ Ok i → word_of i ≡ w → Assembles names a w (m ++ 32 ∷ text)
  line m op i named reads = statement m op i named (word m named.one_word (blank reads) refl)

  -- a mnemonic alone
  pub whole_line : (m : List ℕ) (op : Whole) → IsMnemonic m (operation.Whole op) →
      word_of (whole_ins op) ≡ w → Assembles names a w m
  unfolding grammar_at
  whole_line m op named is =
      statement m (operation.Whole op) (whole_ins op) named
      (last_word m named.one_word) refl refl refl is

  -- a word as data
  pub data_line : w < 2 ^ 32 → Assembles names a w (word_text w)
  unfolding keyword_of directives parts list_bytes value_of_width grammar_at expressions_at behind more_operands_at
  data_line fits =
      let reads = word (codes ".word") refl (blank (last_word (hex 8 w) (hex_word 8 w))) refl in
      record {
        one_line = one_line reads;
        lexemes = Word (codes ".word") ∷ Word (hex 8 w) ∷ [];
        read = read_all reads;
        unlabelled = refl;
        undefining = rw (word_is_last w fits) refl;
        next = rw (word_is_last w fits, room) refl;
        bytes = rw (word_is_last w fits, word_last names w fits) refl;
      }

  -- rd, upper bits
  pub upper_line : (m : List ℕ) (op : Upper) (rd imm : ℕ) → IsMnemonic m (operation.Upper op) →
      rd < 32 → imm < 2 ^ 20 →
      word_of (upper_ins op rd imm) ≡ w →
      Assembles names a w (upper_text m rd imm)
  unfolding grammar_at
  upper_line m op rd imm named d i is =
      let second = Word (short_hex imm) ∷ [] in
      simp append_assoc
      (line m (operation.Upper op) (upper_ins op rd imm) named
      (register_then rd d (last_word (short_hex imm) (short_hex_word imm)))
      refl
      (register_follows rd second d operand.Value [] ∙ short_hex_is_last imm (omega arith))
      (rw (register_first rd second d, short_hex_below names (2 ^ 20) imm i (omega arith)) refl)
      is)

  -- rd, target
  pub jump_line : (m : List ℕ) (rd n : ℕ) → IsMnemonic m operation.Jump →
      rd < 32 → n < 2 ^ 21 → n % 2 ≡ 0 →
      word_of (ins.Jal rd (signed_value 21 n)) ≡ w →
      Assembles names a w (jump_text m a rd (signed_value 21 n))
  unfolding grammar_at
  jump_line m rd n named d i even is =
      let to = target a (signed_value 21 n) in
      let second = Word (hex 8 to) ∷ [] in
      simp append_assoc
      (line m operation.Jump (ins.Jal rd (signed_value 21 n)) named
      (register_then rd d (last_word (hex 8 to) (hex_word 8 to)))
      refl
      (register_follows rd second d operand.Value [] ∙ target_is_last a (signed_value 21 n))
      (rw (register_first rd second d, jump_target names a n below i even) refl)
      is)

  -- rs1, rs2, target
  pub branch_line : (m : List ℕ) (op : Branch) (rs1 rs2 n : ℕ) →
      IsMnemonic m (operation.Branch op) →
      rs1 < 32 → rs2 < 32 → n < 2 ^ 13 → n % 2 ≡ 0 →
      word_of (branch_ins op rs1 rs2 (signed_value 13 n)) ≡ w →
      Assembles names a w (branch_text m a rs1 rs2 (signed_value 13 n))
  unfolding grammar_at
  branch_line m op rs1 rs2 n named s t i even is =
      let to = target a (signed_value 13 n) in
      let third = Word (hex 8 to) ∷ [] in
      let second = Word (name_of rs2) ∷ Mark 44 ∷ third in
      simp append_assoc
      (line m (operation.Branch op) (branch_ins op rs1 rs2 (signed_value 13 n)) named
      (register_then rs1 s (register_then rs2 t (last_word (hex 8 to) (hex_word 8 to))))
      refl
      (register_follows rs1 second s operand.Register (operand.Value ∷ [])
      ∙ register_follows rs2 third t operand.Value []
      ∙ target_is_last a (signed_value 13 n))
      (let last = branch_target names a n below i even in
      rw (register_first rs1 second s, register_first rs2 third t, last) refl)
      is)

  -- rd, immediate(rs1)
  pub load_line : (m : List ℕ) (op : Load) (rd rs1 n : ℕ) → IsMnemonic m (operation.Load op) →
      rd < 32 → rs1 < 32 → n < 2 ^ 12 →
      word_of (load_ins op rd rs1 (signed_value 12 n)) ≡ w →
      Assembles names a w (access_text m rd rs1 (signed_value 12 n))
  unfolding grammar_at
  load_line m op rd rs1 n named d s i is =
      let base = Word (name_of rs1) ∷ Mark 41 ∷ [] in
      let second = signed_lexemes (signed_value 12 n) ++ Mark 40 ∷ base in
      simp append_assoc
      (line m (operation.Load op) (load_ins op rd rs1 (signed_value 12 n)) named
      (register_then rd d (signed_reads (signed_value 12 n) (base_register rs1 s) refl))
      refl
      (register_follows rd second d operand.Address [] ∙ address_is_last n rs1 i s)
      (let value = immediate_first names n base i in
      rw (register_first rd second d, value, immediate_field n i, base_last rs1 s) refl)
      is)

  -- rs2, immediate(rs1)
  pub store_line : (m : List ℕ) (op : Store) (rs2 rs1 n : ℕ) → IsMnemonic m (operation.Store op) →
      rs2 < 32 → rs1 < 32 → n < 2 ^ 12 →
      word_of (store_ins op rs1 rs2 (signed_value 12 n)) ≡ w →
      Assembles names a w (access_text m rs2 rs1 (signed_value 12 n))
  unfolding grammar_at
  store_line m op rs2 rs1 n named t s i is =
      let base = Word (name_of rs1) ∷ Mark 41 ∷ [] in
      let second = signed_lexemes (signed_value 12 n) ++ Mark 40 ∷ base in
      simp append_assoc
      (line m (operation.Store op) (store_ins op rs1 rs2 (signed_value 12 n)) named
      (register_then rs2 t (signed_reads (signed_value 12 n) (base_register rs1 s) refl))
      refl
      (register_follows rs2 second t operand.Address [] ∙ address_is_last n rs1 i s)
      (let value = immediate_first names n base i in
      rw (register_first rs2 second t, value, immediate_field n i, base_last rs1 s) refl)
      is)

  -- rd, rs1, immediate
  pub immediate_line : (m : List ℕ) (op : Immediate) (rd rs1 n : ℕ) →
      IsMnemonic m (operation.Immediate op) →
      rd < 32 → rs1 < 32 → n < 2 ^ 12 →
      word_of (immediate_ins op rd rs1 (signed_value 12 n)) ≡ w →
      Assembles names a w (immediate_text m rd rs1 (signed_value 12 n))
  unfolding grammar_at
  immediate_line m op rd rs1 n named d s i is =
      let third = signed_lexemes (signed_value 12 n) in
      let second = Word (name_of rs1) ∷ Mark 44 ∷ third in
      simp append_assoc
      (line m (operation.Immediate op) (immediate_ins op rd rs1 (signed_value 12 n)) named
      (register_then rd d (register_then rs1 s (last_signed_reads (signed_value 12 n))))
      refl
      (register_follows rd second d operand.Register (operand.Value ∷ [])
      ∙ register_follows rs1 third s operand.Value [] ∙ immediate_is_last n i)
      (rw (register_first rd second d, register_first rs1 third s, immediate_last names n i) refl)
      is)

  -- rd, rs1, amount
  pub shift_line : (m : List ℕ) (op : Shift) (rd rs1 amount : ℕ) →
      IsMnemonic m (operation.Shift op) →
      rd < 32 → rs1 < 32 → amount < 32 →
      word_of (shift_ins op rd rs1 amount) ≡ w →
      Assembles names a w (shift_text m rd rs1 amount)
  unfolding grammar_at
  shift_line m op rd rs1 amount named d s i is =
      let third = Word (decimal amount) ∷ [] in
      let second = Word (name_of rs1) ∷ Mark 44 ∷ third in
      simp append_assoc
      (line m (operation.Shift op) (shift_ins op rd rs1 amount) named
      (register_then rd d (register_then rs1 s (last_word (decimal amount) (decimal_word amount))))
      refl
      (register_follows rd second d operand.Register (operand.Value ∷ [])
      ∙ register_follows rs1 third s operand.Value [] ∙ decimal_is_last amount (omega arith))
      (let last = decimal_below names 32 amount i (omega arith) in
      rw (register_first rd second d, register_first rs1 third s, last) refl)
      is)

  -- rd, rs1, rs2
  pub registers_line : (m : List ℕ) (op : Register) (rd rs1 rs2 : ℕ) →
      IsMnemonic m (operation.Register op) →
      rd < 32 → rs1 < 32 → rs2 < 32 →
      word_of (register_ins op rd rs1 rs2) ≡ w →
      Assembles names a w (registers_text m rd rs1 rs2)
  unfolding grammar_at
  registers_line m op rd rs1 rs2 named d s t is =
      let third = Word (name_of rs2) ∷ [] in
      let second = Word (name_of rs1) ∷ Mark 44 ∷ third in
      simp append_assoc
      (line m (operation.Register op) (register_ins op rd rs1 rs2) named
      (register_then rd d (register_then rs1 s (just_register rs2 t)))
      refl
      (register_follows rd second d operand.Register (operand.Register ∷ [])
      ∙ register_follows rs1 third s operand.Register [] ∙ register_is_last rs2 t)
      (rw (register_first rd second d, register_first rs1 third s, register_last rs2 t) refl)
      is)

  -- rd, CSR, rs1
  pub csr_line : (m : List ℕ) (op : Csr) (rd rs1 csr : ℕ) → IsMnemonic m (operation.Csr op) →
      rd < 32 → rs1 < 32 → csr < 2 ^ 12 →
      word_of (csr_ins op rd rs1 csr) ≡ w →
      Assembles names a w (csr_text m rd rs1 csr)
  unfolding grammar_at
  csr_line m op rd rs1 csr named d s i is =
      let third = Word (name_of rs1) ∷ [] in
      let second = Word (hex 3 csr) ∷ Mark 44 ∷ third in
      simp append_assoc
      (line m (operation.Csr op) (csr_ins op rd rs1 csr) named
      (register_then rd d (csr_then csr (just_register rs1 s)))
      refl
      (register_follows rd second d operand.Csr (operand.Register ∷ [])
      ∙ csr_follows csr third i operand.Register [] ∙ register_is_last rs1 s)
      (rw (register_first rd second d, csr_first csr third i, register_last rs1 s) refl)
      is)

  -- rd, CSR, immediate
  pub csr_immediate_line : (m : List ℕ) (op : CsrImmediate) (rd imm csr : ℕ) →
      IsMnemonic m (operation.CsrImmediate op) →
      rd < 32 → imm < 32 → csr < 2 ^ 12 →
      word_of (csr_immediate_ins op rd imm csr) ≡ w →
      Assembles names a w (csr_immediate_text m rd imm csr)
  unfolding grammar_at
  csr_immediate_line m op rd imm csr named d s i is =
      let third = Word (decimal imm) ∷ [] in
      let second = Word (hex 3 csr) ∷ Mark 44 ∷ third in
      simp append_assoc
      (line m (operation.CsrImmediate op) (csr_immediate_ins op rd imm csr) named
      (register_then rd d (csr_then csr (last_word (decimal imm) (decimal_word imm))))
      refl
      (register_follows rd second d operand.Csr (operand.Value ∷ [])
      ∙ csr_follows csr third i operand.Value [] ∙ decimal_is_last imm (omega arith))
      (let last = decimal_below names 32 imm s (omega arith) in
      rw (register_first rd second d, csr_first csr third i, last) refl)
      is)

  -- rd, (rs1)
  pub load_reserved_line : (m : List ℕ) (rd rs1 : ℕ) (aq rl : Bool) →
      IsMnemonic (ordered m aq rl) (operation.LoadReserved (ordering aq rl)) →
      rd < 32 → rs1 < 32 →
      word_of (ins.LrW rd rs1 aq rl) ≡ w →
      Assembles names a w (load_reserved_text m rd rs1 aq rl)
  unfolding grammar_at
  load_reserved_line m rd rs1 aq rl named d s is =
      let second = Mark 40 ∷ Word (name_of rs1) ∷ Mark 41 ∷ [] in
      simp append_assoc
      (line (ordered m aq rl) (operation.LoadReserved (ordering aq rl)) (ins.LrW rd rs1 aq rl) named
      (register_then rd d (base_register rs1 s))
      refl
      (register_follows rd second d operand.Base [] ∙ base_is_last rs1 s)
      (rw (register_first rd second d, base_last rs1 s) refl)
      is)

  -- rd, rs2, (rs1)
  pub atomic_line : (m : List ℕ) (op : Atomic) (rd rs1 rs2 : ℕ) (aq rl : Bool) →
      IsMnemonic (ordered m aq rl) (operation.Atomic op (ordering aq rl)) →
      rd < 32 → rs1 < 32 → rs2 < 32 →
      word_of (atomic_ins op (ordering aq rl) rd rs1 rs2) ≡ w →
      Assembles names a w (atomic_text m rd rs1 rs2 aq rl)
  unfolding grammar_at
  atomic_line m op rd rs1 rs2 aq rl named d s t is =
      let third = Mark 40 ∷ Word (name_of rs1) ∷ Mark 41 ∷ [] in
      let second = Word (name_of rs2) ∷ Mark 44 ∷ third in
      simp append_assoc
      (line (ordered m aq rl) (operation.Atomic op (ordering aq rl))
      (atomic_ins op (ordering aq rl) rd rs1 rs2) named
      (register_then rd d (register_then rs2 t (base_register rs1 s)))
      refl
      (register_follows rd second d operand.Register (operand.Base ∷ [])
      ∙ register_follows rs2 third t operand.Base [] ∙ base_is_last rs1 s)
      (rw (register_first rd second d, register_first rs2 third t, base_last rs1 s) refl)
      is)
