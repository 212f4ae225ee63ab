-- What is kept where nothing is written.
use Rattle.std.proofs.Common.{◌∙◌, ℕ, List, Some, None, [], refl, sym, append-nil}
use Rattle.std.specs.declared.option.Option.{Option}
use Rattle.std.specs.Io.KnownBytes.{Appends, Keeps}
use Rattle.fmt_ports.specs.Files.{Held, KeepsAll, KeepsOthers}

pub keeps_self : (x : Option (List ℕ)) → Keeps x x
keeps_self None = tt
keeps_self (Some x) = refl

pub keeps_all_self : (held : Held) → KeepsAll held held
keeps_all_self None = tt
keeps_all_self (Some at) = λ name. refl

pub keeps_all_after : (a b c : Held) → KeepsAll a b → KeepsAll b c → KeepsAll a c
keeps_all_after None b c h k = tt
keeps_all_after (Some a) None c h k = absurd h
keeps_all_after (Some a) (Some b) None h k = absurd k
keeps_all_after (Some a) (Some b) (Some c) h k = λ name. k name ∙ h name

-- the others stay where all stayed before
pub others_after : (name : List ℕ) (a b c : Held) → KeepsAll a b → KeepsOthers name b c → KeepsOthers name a c
others_after name None b c h k = tt
others_after name (Some a) None c h k = absurd h
others_after name (Some a) (Some b) None h k = absurd k
others_after name (Some a) (Some b) (Some c) h k = λ other apart. k other apart ∙ h other

-- where nothing is taken, a text without bytes is
pub takes_nothing : (old new : Option (List ℕ)) → Keeps old new → Appends old new []
takes_nothing None new k = tt
takes_nothing (Some xs) None k = absurd k
takes_nothing (Some xs) (Some ys) k = k ∙ sym (append-nil xs)
