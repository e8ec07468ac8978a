pub mod FreeWaves
pub mod DrivenWaves
pub mod NodeNames
