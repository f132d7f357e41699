-- What a setting stands for.
use Rattle.grace.specs.Scene.{Scene}
use Rattle.settings.specs.Parts.{scene_of}
use Rattle.settings.specs.declared.kinds.Setting.{Setting}

-- the scene that the law speaks of
abbrev pub scene : Setting → Scene
scene x = scene_of x.po x.prop x.hb x.strong x.crit x.periods
