pub mod Laws
pub mod FirstLaws
pub mod RankLaws
