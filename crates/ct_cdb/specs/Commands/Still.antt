-- Commands that move no block.
use Rattle.std.specs.Prelude.{[], true, false}
use Rattle.ct_cdb.specs.declared.op.SerIdx.{SerIdx}
use Rattle.ct_cdb.specs.declared.profile.Profile.{Profile}
use Rattle.ct_cdb.specs.declared.profile.Class.{Class}

-- it asks for no data and returns none
abbrev pub still : SerIdx → Class → Profile
still index class = record {
  index = index;
  class = class;
  reports_attention = true;
  needs_started = false;
  is_write = false;
  data_out = 0;
  data_in = 0;
  need = 0;
  ranges = [];
  phases = [];
}
