-- What a register file shows.
use Rattle.rvm_csr.specs.declared.file.CsrFile.TheInside.{Inside}
use Rattle.rvm_csr.specs.Registers.{CsrState}

-- each CSR is kept in the field of its name, and the two counters in one field
abbrev pub state_of : Inside → CsrState
state_of file =
    record {
      hart = file.hart;
      interrupts_enabled = file.interrupts_enabled;
      enabled_before = file.enabled_before;
      mie = file.mie;
      mtvec = file.mtvec;
      mscratch = file.mscratch;
      mepc = file.mepc;
      mcause = file.mcause;
      mtval = file.mtval;
      mcycle = file.counters.mcycle;
      minstret = file.counters.minstret;
    }
