-- The first words of lines that name no file.
use Rattle.std.specs.Prelude.{ℕ, List, codes}
use Rattle.scripts.specs.declared.verb.Verb.{Verb}
use Rattle.scripts.specs.declared.verb.Verb.TheVariants.{Epoch, Client, Open, Forget, Ask, AskFrom, Deliver, Exchange, Check}

-- the word of a verb
abbrev pub word_of : Verb → List ℕ
word_of Epoch = codes "epoch"
word_of Client = codes "client"
word_of Open = codes "open"
word_of Forget = codes "forget"
word_of Ask = codes "ask"
word_of AskFrom = codes "askfrom"
word_of Deliver = codes "deliver"
word_of Exchange = codes "exchange"
word_of Check = codes "check"
