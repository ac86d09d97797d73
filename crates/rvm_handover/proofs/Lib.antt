mod Tables
mod Copies
mod Lists
mod Told
mod Built
mod States
mod Gathering
mod Parts
